use Rattle.handlebars_expressions.proofs.JsonOf.{value_of_literal, value_of_other}
use Rattle.handlebars_expressions.proofs.laws.value_of_literal.Goals as goal

pub returns-clause-literal : goal.returns-clause-literal
returns-clause-literal c = value_of_literal

pub returns-clause-other : goal.returns-clause-other
returns-clause-other c = value_of_other
