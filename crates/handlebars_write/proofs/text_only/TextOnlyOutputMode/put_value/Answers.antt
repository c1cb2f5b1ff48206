use Rattle.std.proofs.Common.{ap, option_map, refl, ◌∙◌}
use Rattle.serde_json.specs.View.{view}
use Rattle.handlebars_base.specs.Shown.{shown}
use Rattle.handlebars_write.specs.ModeView.{text_mode}
use Rattle.handlebars_write.specs.OutcomeView.{outcome_answer}
use Rattle.handlebars_write.proofs.Puts.{none_emitted, text_puts}
use Rattle.handlebars_write.proofs.text_only.TextOnlyOutputMode.put_value.Goals as goal

pub returns-in-None-clause-puts : goal.returns-in-None-clause-puts
returns-in-None-clause-puts g c = λ o is s indent same.
    let w = text_mode g.O.Output.held g.O.Output.may_give in
    text_puts _ o (shown c.args.entities (view c.args.value.now)) s _ _ _ (outcome_answer c.show.result)
    (none_emitted w c.args.sink.now refl) (none_emitted w c.show.new.sink refl)
    (c.show.ensures.puts s (indent ∙ ap (option_map (λ t. t.now)) c.in-None.is) same)

pub returns-in-Some-clause-puts : goal.returns-in-Some-clause-puts
returns-in-Some-clause-puts g c = λ o is s indent same.
    let w = text_mode g.O.Output.held g.O.Output.may_give in
    text_puts _ o (shown c.args.entities (view c.args.value.now)) s _ _ _ (outcome_answer c.show_under.result)
    (none_emitted w c.args.sink.now refl) (none_emitted w c.show_under.new.sink refl)
    (c.show_under.ensures.puts s (indent ∙ ap (option_map (λ t. t.now)) c.in-Some.is) same)
