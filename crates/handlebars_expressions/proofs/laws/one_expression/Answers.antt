use Rattle.handlebars_expressions.proofs.Expressions.{one_expression}
use Rattle.handlebars_expressions.proofs.laws.one_expression.Goals as goal

pub returns : goal.returns
returns c = one_expression
