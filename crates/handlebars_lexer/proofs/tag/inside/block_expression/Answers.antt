use Rattle.std.proofs.Common.{refl}
use Rattle.handlebars_expressions.specs.Expression.{in_block}
use Rattle.handlebars_expressions.proofs.Alone.{named_expression}
use Rattle.handlebars_lexer.proofs.ExpressionNames.{to_block}
use Rattle.handlebars_lexer.proofs.tag.inside.block_expression.Goals as goal

pub returns-in-Some : goal.returns-in-Some
returns-in-Some c =
    let t = c.args.text.now in
    let found = c.in-Some.found in
    let is = rw c.in-Some.is at c.path_named.ensures in
    c.bound_expression.ensures c.args.sections _ (to_block c.args.sections t found.rest.now _ (named_expression in_block t found.name.now found.raw.now found.rest.now is)) refl refl
    (record { name = found.name.now; left = found.rest.now; is = is })
