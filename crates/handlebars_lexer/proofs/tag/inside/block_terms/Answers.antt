use Rattle.std.proofs.Common.{sym}
use Rattle.handlebars_lexer.specs.Tag.{block_mode}
use Rattle.handlebars_lexer.proofs.BlockExpressions.{none-expression}
use Rattle.handlebars_lexer.proofs.ExpressionNames.{to_opening, written-prefix, none-prefix}
use Rattle.handlebars_lexer.proofs.tag.inside.block_terms.Goals as goal

pub returns-in_default : goal.returns-in_default
returns-in_default c = none-expression (block_mode c.args.sections) c.args.text.now (rw (c.in_default.is, c.block_mode.ensures) at c.in_ok-expression.ensures)

pub returns-in-Some-path_token : goal.returns-in-Some-path_token
returns-in-Some-path_token c =
    let expression = rw (c.in-Some.is, c.block_mode.ensures) at c.in_ok-expression.ensures in
    let opening = to_opening c.args.sections c.args.text.now c.in-Some.expression.rest.now expression.expression expression.is in
    c.bound_expression.ensures c.args.sections expression.expression expression.is expression.deep (written-prefix {expression = expression.expression} opening (sym c.in-Some-path_token.ensures)) tt

-- An expression is there, and its name is the path at the start.
pub returns-in-None : goal.returns-in-None
returns-in-None c =
    let expression = rw (c.in-Some.is, c.block_mode.ensures) at c.in_ok-expression.ensures in
    none-prefix {expression = expression.expression} (to_opening c.args.sections c.args.text.now c.in-Some.expression.rest.now expression.expression expression.is) c.in-None.ensures
