use Rattle.handlebars_template.specs.Tree.{decorator_args, decorator_name}
use Rattle.handlebars_template.specs.TreeView.{decorator_view}
use Rattle.handlebars_semantics.specs.Questions.{view_of}
use Rattle.handlebars_expand.specs.Boxed.{answer_of}
use Rattle.handlebars_elements.specs.Silent.{decorate_tag}
use Rattle.handlebars_values.specs.View.{called_view, setting_in, state_with}
use Rattle.handlebars_elements.proofs.Silent.{does-propagated, does-no_memory, does-failed, does-tag}
use Rattle.handlebars_expand.proofs.Propagated.{propagated-itself}
use Rattle.handlebars_elements.proofs.decorator.render_decorator.Goals as goal

pub returns-clause-does : goal.returns-clause-does
returns-clause-does g c = λ captured.
    does-tag (setting_in g.P.Registered.parts c.args.environment.now) (decorator_view c.args.tag.now) (called_view c.in_ok-call.call) _
    (state_with captured c.args.run.now) (state_with captured c.decorate.new.run) (answer_of c.decorate.result) c.in_ok-view.ensures
    (c.in_ok-call.ensures captured) (c.decorate.ensures.does captured)

pub returns-in_err-view-clause-does : goal.returns-in_err-view-clause-does
returns-in_err-view-clause-does g c = λ captured. does-no_memory (setting_in g.P.Registered.parts c.args.environment.now) _ _ _ c.from_residual-in_err-view.result c.from_residual-in_err-view.ensures.1

pub returns-in_err-call-clause-does : goal.returns-in_err-call-clause-does
returns-in_err-call-clause-does g c = λ captured.
    does-propagated (setting_in g.P.Registered.parts c.args.environment.now) _ _ _ c.from_residual.result _ c.from_residual.ensures.1
    (does-failed (setting_in g.P.Registered.parts c.args.environment.now) (view_of (decorator_name (decorator_view c.args.tag.now)) (decorator_args (decorator_view c.args.tag.now)))
    (decorate_tag (decorator_view c.args.tag.now)) _ _ (propagated-itself _)
    (c.in_err-call.ensures captured))
