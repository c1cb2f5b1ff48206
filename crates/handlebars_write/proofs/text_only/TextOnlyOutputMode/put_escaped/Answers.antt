use Rattle.std.proofs.Common.{refl}
use Rattle.handlebars_write.specs.ModeView.{text_mode}
use Rattle.handlebars_write.specs.OutcomeView.{outcome_answer}
use Rattle.handlebars_write.proofs.Puts.{none_emitted, text_puts}
use Rattle.handlebars_write.proofs.text_only.TextOnlyOutputMode.put_escaped.Goals as goal

pub returns-clause-puts : goal.returns-clause-puts
returns-clause-puts g c = λ o is s indent same.
    let w = text_mode g.O.Output.held g.O.Output.may_give in
    text_puts _ o c.args.text.now s _ _ _ (outcome_answer c.put.result) (none_emitted w c.args.sink.now refl) (none_emitted w c.put.new.sink refl)
    (c.put.ensures.puts s indent same)
