use Rattle.handlebars_expressions.proofs.Parameters.{one_parameter}
use Rattle.handlebars_expressions.proofs.laws.one_parameter.Goals as goal

pub returns : goal.returns
returns c = one_parameter
