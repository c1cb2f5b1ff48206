use Rattle.handlebars_expressions.specs.Expression.{identifier_name}
use Rattle.handlebars_lexer.specs.Kind.{raw_kind}
use Rattle.handlebars_lexer.specs.Tag.{raw_tag}
use Rattle.handlebars_lexer.specs.declared.tag.inside.Content.TheVariants.{RawBlock}
use Rattle.handlebars_lexer.proofs.Insides.{only_raw, none-block}
use Rattle.handlebars_lexer.proofs.InsidesRead.{block_read}
use Rattle.handlebars_lexer.proofs.BlocksRead.{raw_blocks}
use Rattle.handlebars_lexer.proofs.tag.inside.raw_block.Goals as goal

pub returns-in-Some : goal.returns-in-Some
returns-in-Some c =
    let expression = c.in-Some.expression in
    let t = c.args.text.now in
    block_read raw_kind identifier_name raw_tag t t (RawBlock expression.token) expression c.closed.result (raw_blocks t expression) (rw c.in-Some.is at c.in_ok-expression.ensures) c.closed.ensures

pub returns-in-None : goal.returns-in-None
returns-in-None c = none-block raw_kind identifier_name raw_tag c.args.text.now c.args.text.now (only_raw c.args.text.now) (rw c.in-None.is at c.in_ok-expression.ensures)
