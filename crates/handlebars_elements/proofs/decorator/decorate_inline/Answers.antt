use Rattle.std.proofs.Common.{◌∷◌, [], sym}
use Rattle.handlebars_helpers.specs.Decoration.{kind_inline, sets_partial}
use Rattle.handlebars_helpers.specs.DecoratorsView.{tag_view}
use Rattle.handlebars_semantics.specs.Means.{do_actions, set_partial}
use Rattle.handlebars_semantics.specs.Questions.{actions_of}
use Rattle.handlebars_expand.specs.Boxed.{answer_of, error_of}
use Rattle.handlebars_values.specs.View.{setting_in, state_with}
use Rattle.handlebars_elements.proofs.Silent.{does-alone, does-asked, does-failed}
use Rattle.handlebars_elements.proofs.decorator.decorate_inline.Goals as goal

pub returns-in-Ok-clause-does : goal.returns-in-Ok-clause-does
returns-in-Ok-clause-does g c = λ captured.
    let v = tag_view c.args.tag.now in
    does-asked (setting_in g.P.Registered.parts c.args.environment.now) (actions_of kind_inline v) (sets_partial c.in-Ok.name.now ∷ []) (do_actions v.body) (state_with captured c.args.run.now) (state_with captured c.set_partial.new.run) (answer_of c.set_partial.result)
    (sym c.in-Ok.ensures)
    (does-alone (setting_in g.P.Registered.parts c.args.environment.now) (set_partial c.in-Ok.name.now v.body) (state_with captured c.args.run.now) (state_with captured c.set_partial.new.run) (answer_of c.set_partial.result) (c.set_partial.ensures.does captured))

pub returns-in-Err-clause-does : goal.returns-in-Err-clause-does
returns-in-Err-clause-does g c = λ captured.
    let v = tag_view c.args.tag.now in
    does-failed (setting_in g.P.Registered.parts c.args.environment.now) (actions_of kind_inline v) (do_actions v.body) c.in-Err.e (error_of c.new.result) c.new.ensures
    (λ other. sym (c.in-Err.ensures other))
