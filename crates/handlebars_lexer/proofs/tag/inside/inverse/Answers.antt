use Rattle.handlebars_expressions.specs.Expression.{identifier_name}
use Rattle.std.proofs.Common.{◌≡◌, refl, sym, ◌∙◌, true}
use Rattle.handlebars_base.specs.Bytes.{after_white, is_white}
use Rattle.handlebars_base.specs.Texts.{starts}
use Rattle.handlebars_lexer.specs.Kind.{else_kind}
use Rattle.handlebars_lexer.specs.Tag.{inverse_tag, chain_tag, an_else}
use Rattle.handlebars_lexer.specs.declared.tag.inside.Content.TheVariants.{Chain, Inverse}
use Rattle.handlebars_lexer.proofs.Insides.{only_chain, none-block, none-chain}
use Rattle.handlebars_lexer.proofs.InsidesRead.{block_read, text_read}
use Rattle.handlebars_lexer.proofs.BlocksRead.{chain_blocks}
use Rattle.handlebars_lexer.proofs.tag.inside.inverse.Goals as goal

pub returns-in-Some : goal.returns-in-Some
returns-in-Some c = let t = c.args.text.now in text_read else_kind t t inverse_tag Inverse c.in-Some.inside (an_else t) refl refl c.in-Some.ensures

pub returns-then-not-starts_white : goal.returns-then-not-starts_white
returns-then-not-starts_white c = none-chain c.args.text.now c.in_default.ensures (sym c.starts_white.ensures ∙ c.if-not-starts_white.true)

pub returns-in-Some-2 : goal.returns-in-Some-2
returns-in-Some-2 c =
    let t = c.args.text.now in
    let expression = c.in-Some-2.expression in
    let white : starts is_white t ≡ true = sym c.starts_white.ensures ∙ c.if-not-starts_white.false in
    block_read else_kind identifier_name chain_tag (after_white t) t (Chain expression.token) expression c.closed-in-Some-2.result (chain_blocks t expression c.in_default.ensures white)
    (rw (c.in-Some-2.is, c.after_white.ensures) at c.in_ok-expression.ensures) c.closed-in-Some-2.ensures

pub returns-in-None : goal.returns-in-None
returns-in-None c =
    let t = c.args.text.now in
    none-block else_kind identifier_name chain_tag (after_white t) t (only_chain t c.in_default.ensures) (rw (c.in-None.is, c.after_white.ensures) at c.in_ok-expression.ensures)
