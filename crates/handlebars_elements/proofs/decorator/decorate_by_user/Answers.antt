use Rattle.std.proofs.Common.{map}
use Rattle.handlebars_helpers.specs.Decoration.{kind_user}
use Rattle.handlebars_helpers.specs.DecoratorsView.{action_of, tag_view}
use Rattle.handlebars_semantics.specs.Means.{do_actions}
use Rattle.handlebars_semantics.specs.Questions.{actions_of}
use Rattle.handlebars_expand.specs.Boxed.{answer_of, error_of}
use Rattle.handlebars_values.specs.View.{setting_in, state_with}
use Rattle.handlebars_elements.proofs.Silent.{does-asked, does-failed}
use Rattle.handlebars_elements.proofs.RunChanges.{changed-seen}
use Rattle.handlebars_elements.proofs.decorator.decorate_by_user.Goals as goal

pub returns-in-Ok-clause-does : goal.returns-in-Ok-clause-does
returns-in-Ok-clause-does g c = λ captured.
    let v = tag_view c.args.tag.now in
    does-asked (setting_in g.P.Registered.parts c.args.environment.now) (actions_of (kind_user v.call.name) v) (map action_of c.in-Ok.actions.items) (do_actions v.body)
    (state_with captured c.args.run.now) (state_with captured c.do_actions.new.run) (answer_of c.do_actions.result) (rw c.name.ensures at (rw (changed-seen c.as_ref.result c.as_ref.ensures.value) at c.in-Ok.ensures)) (c.do_actions.ensures.does captured)

pub returns-in-Err-clause-does : goal.returns-in-Err-clause-does
returns-in-Err-clause-does g c = λ captured.
    let v = tag_view c.args.tag.now in
    does-failed (setting_in g.P.Registered.parts c.args.environment.now) (actions_of (kind_user v.call.name) v) (do_actions v.body) c.in-Err.e (error_of c.new.result) c.new.ensures
    (λ other. rw c.name.ensures at (rw (changed-seen c.as_ref.result c.as_ref.ensures.value) at (c.in-Err.ensures other)))
