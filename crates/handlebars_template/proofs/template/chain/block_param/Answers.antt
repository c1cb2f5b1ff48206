use Rattle.std.proofs.Common.{◌∙◌, refl}
use Rattle.handlebars_template.proofs.Levels.{binding_view-Pair, param_view-Name}
use Rattle.handlebars_template.proofs.template.chain.block_param.Goals as goal

pub returns-in-BothBound : goal.returns-in-BothBound
returns-in-BothBound c = rw c.in-BothBound.is (binding_view-Pair _ _ ∙ rw (param_view-Name c.in-BothBound.name, param_view-Name c.in-BothBound.other) refl)
