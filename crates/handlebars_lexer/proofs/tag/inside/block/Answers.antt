use Rattle.handlebars_expressions.specs.Expression.{opening_name}
use Rattle.handlebars_lexer.specs.Kind.{block_kind}
use Rattle.handlebars_lexer.specs.Tag.{block_tag}
use Rattle.handlebars_lexer.specs.declared.tag.inside.Content.TheVariants.{Block}
use Rattle.handlebars_lexer.proofs.Insides.{only_block, none-block}
use Rattle.handlebars_lexer.proofs.InsidesRead.{block_read}
use Rattle.handlebars_lexer.proofs.BlocksRead.{blocks}
use Rattle.handlebars_lexer.proofs.tag.inside.block.Goals as goal

pub returns-in-Some : goal.returns-in-Some
returns-in-Some c =
    let expression = c.in-Some.expression in
    let t = c.args.text.now in
    block_read block_kind opening_name block_tag t t (Block expression.token) expression c.closed.result (blocks t expression) (rw c.in-Some.is at c.in_ok-expression.ensures) c.closed.ensures

pub returns-in-None : goal.returns-in-None
returns-in-None c = none-block block_kind opening_name block_tag c.args.text.now c.args.text.now (only_block c.args.text.now) (rw c.in-None.is at c.in_ok-expression.ensures)
