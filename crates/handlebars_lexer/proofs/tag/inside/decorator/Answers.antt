use Rattle.handlebars_expressions.specs.Expression.{identifier_name}
use Rattle.handlebars_lexer.specs.Kind.{decorator_kind}
use Rattle.handlebars_lexer.specs.Tag.{decorator_tag}
use Rattle.handlebars_lexer.specs.declared.tag.inside.Content.TheVariants.{Decorator}
use Rattle.handlebars_lexer.proofs.Insides.{none-decorator}
use Rattle.handlebars_lexer.proofs.InsidesRead.{block_read}
use Rattle.handlebars_lexer.proofs.BlocksRead.{decorators}
use Rattle.handlebars_lexer.proofs.tag.inside.decorator.Goals as goal

pub returns-in-Some : goal.returns-in-Some
returns-in-Some c =
    let expression = c.in-Some.expression in
    let read = rw c.in-Some.is at c.in_ok-expression.ensures in
    let t = c.args.text.now in
    block_read decorator_kind identifier_name decorator_tag t t (Decorator expression.token) expression c.closed.result (decorators t expression read.binds_none) read.has c.closed.ensures

pub returns-in-None : goal.returns-in-None
returns-in-None c = none-decorator c.args.text.now (rw c.in-None.is at c.in_ok-expression.ensures)
