use Rattle.std.proofs.Common.{◌≡◌, [], length, ap, arith}
use Rattle.handlebars_base.proofs.OptionBinds.{nonempty}
use Rattle.handlebars_base.specs.Bytes.{Text}
use Rattle.handlebars_lexer.proofs.InsidesRead.{raw_close_read}
use Rattle.handlebars_lexer.proofs.tag.inside.raw_close.Goals as goal

pub returns-else-is_empty : goal.returns-else-is_empty
returns-else-is_empty c =
    let name = c.symbols.result.0 in
    let some = nonempty name.now c.if-is_empty.ensures in
    raw_close_read c.args.text.now name c.symbols.result.1 c.closed.result c.symbols.ensures.prefix c.symbols.ensures.rest
    (λ (e : name.now ≡ []). omega (arith, some, ap (λ (z : Text). length z) e)) c.closed.ensures
