use Rattle.std.proofs.Common.{◌∙◌, ap, refl}
use Rattle.std.specs.Prelude.{None}
use Rattle.handlebars_template.specs.Tree.{name}
use Rattle.handlebars_template.specs.ExpressionBuildingView.{calls_view}
use Rattle.std.proofs.lemmas.Result.{on_ok_weaker}
use Rattle.handlebars_template.proofs.Levels.{param_view-Name}
use Rattle.handlebars_template.proofs.OpenExpressions.{calls-name}
use Rattle.handlebars_template.proofs.template.build.OpenCalls.add_name.Goals as goal

pub returns : goal.returns
returns c = on_ok_weaker c.add.result
    (λ added expressions are. calls-name expressions (calls_view c.args.self.now) _ None c.args.raw.now are
    (λ expression t is same. added expression t is (param_view-Name c.in_ok-from_str.field-0 ∙ ap name c.in_ok-from_str.ensures.ok ∙ same)) refl refl)
    c.add.ensures
