use Rattle.handlebars_expressions.specs.ExpressionView.{mode_of}
use Rattle.handlebars_lexer.specs.KindView.{kind_of}
use Rattle.handlebars_lexer.proofs.InsidesRead.{expression_is_read}
use Rattle.handlebars_lexer.proofs.tag.inside.expression.Goals as goal

pub returns-in-Some : goal.returns-in-Some
returns-in-Some c =
    let expression = rw c.in-Some.is at c.in_ok-expression.ensures in
    expression_is_read (kind_of c.args.kind) (mode_of c.args.mode) c.args.text.now c.in-Some.expression.rest.now expression.expression c.args.content c.in-Some.expression.depth c.closed.result expression.is expression.deep c.closed.ensures

pub returns-in-None : goal.returns-in-None
returns-in-None c expression after right rest is closes = rw c.in-None.is at c.in_ok-expression.ensures expression after is
