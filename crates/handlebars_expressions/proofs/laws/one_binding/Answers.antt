use Rattle.handlebars_expressions.proofs.Bindings.{one_binding}
use Rattle.handlebars_expressions.proofs.laws.one_binding.Goals as goal

pub returns : goal.returns
returns c = one_binding
