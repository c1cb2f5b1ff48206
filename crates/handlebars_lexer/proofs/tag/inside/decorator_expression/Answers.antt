use Rattle.handlebars_lexer.proofs.DecoratorExpressions.{no_expression, binds_one, binds_two}
use Rattle.handlebars_lexer.proofs.tag.inside.decorator_expression.Goals as goal

pub returns-in_default : goal.returns-in_default
returns-in_default c = no_expression c.args.text.now (rw c.in_default.is at c.in_ok-expression.ensures)

pub returns-in-Bound : goal.returns-in-Bound
returns-in-Bound c = binds_one c.args.text.now c.in-Some.expression c.in-Bound.field-0 (rw c.in-Some.is at c.in_ok-expression.ensures) c.in-Bound.is

pub returns-in-BothBound : goal.returns-in-BothBound
returns-in-BothBound c = binds_two c.args.text.now c.in-Some.expression c.in-BothBound.field-0 c.in-BothBound.field-1 (rw c.in-Some.is at c.in_ok-expression.ensures) c.in-BothBound.is
