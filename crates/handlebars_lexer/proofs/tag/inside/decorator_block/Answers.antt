use Rattle.handlebars_expressions.specs.Expression.{identifier_name}
use Rattle.handlebars_lexer.specs.Kind.{decorator_block_kind}
use Rattle.handlebars_lexer.specs.Tag.{decorator_block_tag}
use Rattle.handlebars_lexer.specs.declared.tag.inside.Content.TheVariants.{DecoratorBlock}
use Rattle.handlebars_lexer.proofs.Insides.{none-decorator_block}
use Rattle.handlebars_lexer.proofs.InsidesRead.{block_read}
use Rattle.handlebars_lexer.proofs.BlocksRead.{decorator_blocks}
use Rattle.handlebars_lexer.proofs.tag.inside.decorator_block.Goals as goal

pub returns-in-Some : goal.returns-in-Some
returns-in-Some c =
    let expression = c.in-Some.expression in
    let read = rw c.in-Some.is at c.in_ok-expression.ensures in
    let t = c.args.text.now in
    block_read decorator_block_kind identifier_name decorator_block_tag t t (DecoratorBlock expression.token) expression c.closed.result (decorator_blocks t expression read.binds_none) read.has c.closed.ensures

pub returns-in-None : goal.returns-in-None
returns-in-None c = none-decorator_block c.args.text.now (rw c.in-None.is at c.in_ok-expression.ensures)
