use Rattle.std.proofs.Common.{◌≡◌, ◌∙◌, sym, ap}
use Rattle.handlebars_base.specs.Bytes.{is_white, after_white}
use Rattle.handlebars_base.specs.PathReading.{path_token_at}
use Rattle.handlebars_base.specs.Texts.{starts, after_symbols}
use Rattle.handlebars_base.proofs.OptionBinds.{nonempty}
use Rattle.handlebars_expressions.specs.ExpressionView.{enclosure_of}
use Rattle.handlebars_expressions.specs.LiteralReading.{literal_at}
use Rattle.handlebars_expressions.proofs.Alone.{is_named}
use Rattle.handlebars_expressions.proofs.expression.alone.path_named.Goals as goal

pub returns-then-is_end : goal.returns-then-is_end
returns-then-is_end c =
    let t = c.args.text.now in
    let after : c.after_white.result.now ≡ after_white (after_symbols t) = c.after_white.ensures ∙ ap after_white c.symbols.ensures.rest in
    rw c.symbols.ensures.prefix
    (is_named (enclosure_of c.args.around) t c.in-Some.token.raw.now c.in-Some.token.rest.now
    (rw c.symbols.ensures.prefix at (nonempty c.symbols.result.0.now (sym c.if-is_empty.false ∙ c.is_empty.ensures)))
    (ap (starts is_white) (sym c.symbols.ensures.rest) ∙ sym c.starts_white.ensures ∙ c.if-not-starts_white.false)
    (ap path_token_at (sym after) ∙ rw c.in-Some.is at c.free_path.ensures.token)
    (ap literal_at (sym after) ∙ rw c.in-Some.is at c.free_path.ensures.literal)
    (rw c.in-Some.is at c.free_path.ensures.free)
    (sym c.is_end.ensures ∙ c.if-is_end.true))
