use Rattle.std.proofs.Common.{sym, ◌∙◌}
use Rattle.handlebars_template.proofs.ParametersParsed.{nested_none, nested_open, nested_more, nested_is}
use Rattle.handlebars_template.proofs.template.parameter.nested_depth.Goals as goal

pub returns-in_default : goal.returns-in_default
returns-in_default c =
    nested_none c.args.inside.now (rw c.after_white-expression.ensures at (rw c.in_default.is at c.in_ok-token.ensures))

pub returns-in_default-after_byte : goal.returns-in_default-after_byte
returns-in_default-after_byte c =
    nested_open c.args.inside.now c.in-Some.token.rest.now c.in-Some.token.depth
    (rw c.after_white-expression.ensures at (rw c.in-Some.is at c.in_ok-token.ensures)) (rw (c.after_white.ensures, c.in_default-after_byte.is) at c.after_byte.ensures)

pub returns-else-is_empty : goal.returns-else-is_empty
returns-else-is_empty c =
    nested_more c.args.inside.now c.in-Some.token.rest.now c.in-Some-after_byte.rest.now c.in-Some.token.depth
    (rw c.after_white-expression.ensures at (rw c.in-Some.is at c.in_ok-token.ensures)) (rw (c.after_white.ensures, c.in-Some-after_byte.is) at c.after_byte.ensures)
    (sym c.is_empty.ensures ∙ c.if-is_empty.false)

pub returns-then-is_empty : goal.returns-then-is_empty
returns-then-is_empty c =
    nested_is c.args.inside.now c.in-Some.token.rest.now c.in-Some-after_byte.rest.now c.in-Some.token.depth
    (rw c.after_white-expression.ensures at (rw c.in-Some.is at c.in_ok-token.ensures)) (rw (c.after_white.ensures, c.in-Some-after_byte.is) at c.after_byte.ensures)
    (sym c.is_empty.ensures ∙ c.if-is_empty.true)
