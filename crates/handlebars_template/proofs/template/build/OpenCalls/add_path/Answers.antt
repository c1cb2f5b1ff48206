use Rattle.std.proofs.Common.{◌∙◌, refl}
use Rattle.handlebars_base.specs.PathView.{reference_of}
use Rattle.handlebars_expressions.specs.ExpressionView.{key_of}
use Rattle.handlebars_template.specs.ExpressionBuildingView.{calls_view}
use Rattle.handlebars_template.proofs.Levels.{param_view-Path}
use Rattle.handlebars_template.proofs.OpenExpressions.{calls-path}
use Rattle.handlebars_template.proofs.template.build.OpenCalls.add_path.Goals as goal

pub returns : goal.returns
returns c expressions are =
    calls-path expressions (calls_view c.args.self.now) _ (key_of c.args.key) (reference_of c.in-Some.path) _ are
    (λ expression t is same. rw c.in_ok-key.ensures at (c.in_ok-add.ensures expression t is (param_view-Path c.in-Some.path ∙ same))) refl refl (rw c.in-Some.is at c.in_ok-path.ensures)
