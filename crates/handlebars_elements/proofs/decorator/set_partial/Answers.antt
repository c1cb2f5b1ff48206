use Rattle.std.proofs.Common.{ap, ◌∙◌}
use Rattle.handlebars_template.specs.TreeView.{tree_view}
use Rattle.handlebars_helpers.specs.DecoratorsView.{tag_view}
use Rattle.handlebars_expand.specs.Boxed.{error_of}
use Rattle.handlebars_values.specs.View.{setting_in, state_with}
use Rattle.handlebars_elements.proofs.RunChanges.{partial-set}
use Rattle.handlebars_elements.proofs.Silent.{does-partial, fails-partial}
use Rattle.handlebars_elements.proofs.decorator.set_partial.Goals as goal

pub returns-in_ok-put-in-Some-clause-does : goal.returns-in_ok-put-in-Some-clause-does
returns-in_ok-put-in-Some-clause-does g c = λ captured.
    does-partial (setting_in g.P.Registered.parts c.args.environment.now) c.args.name.now (tag_view c.args.tag.now).body
    (tree_view c.in-Some.template.now) c.in-Some.ensures
    (partial-set (state_with captured c.args.run.now) _ c.args.name.now (tree_view c.in_ok-copy-in-Some.copy.value)
    (tree_view c.in-Some.template.now) (ap tree_view c.in_ok-copy-in-Some.ensures.ok ∙ c.in_ok-clone-in-Some.ensures)
    c.in_ok-put-in-Some.ensures.ok)

pub returns-in-None-clause-does : goal.returns-in-None-clause-does
returns-in-None-clause-does g c = λ captured.
    fails-partial (setting_in g.P.Registered.parts c.args.environment.now) c.args.name.now (tag_view c.args.tag.now).body
    (error_of c.failed.result) c.in-None.ensures c.failed.ensures
