use Rattle.handlebars_expressions.proofs.LiteralsFound.{one_literal}
use Rattle.handlebars_expressions.proofs.laws.one_literal.Goals as goal

pub returns : goal.returns
returns c = one_literal
