use Rattle.handlebars_expressions.specs.ExpressionView.{enclosure_of}
use Rattle.handlebars_expressions.proofs.Alone.{alone_has_expression, named_has_expression}
use Rattle.handlebars_expressions.proofs.expression.split_alone.Goals as goal

pub returns-in-Some : goal.returns-in-Some
returns-in-Some c =
    rw c.in-Value.is
    (alone_has_expression (enclosure_of c.args.around) c.args.text.now c.in-Some.token.raw.now c.in-Some.token.rest.now (rw c.in-Some.is at c.path_alone.ensures.alone))

pub returns-in-Some-path_named : goal.returns-in-Some-path_named
returns-in-Some-path_named c =
    let found = c.in-Some-path_named.found in
    rw c.in-Identifier.is
    (named_has_expression (enclosure_of c.args.around) c.args.text.now found.name.now found.raw.now found.rest.now (rw c.in-Some-path_named.is at c.path_named.ensures))
