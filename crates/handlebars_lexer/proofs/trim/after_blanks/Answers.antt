use Rattle.std.proofs.Common.{arith, sym, ◌∙◌}
use Rattle.std.proofs.lemmas.Str.{IsCharBoundary-after_ascii}
use Rattle.handlebars_lexer.proofs.Trims.{is_blank-ascii}
use Rattle.handlebars_lexer.proofs.trim.after_blanks.Goals as goal

pub split_at-requires : goal.split_at-requires
split_at-requires c =
    IsCharBoundary-after_ascii c.prefix.rest.now 0 c.prefix.invariant.text
    (omega (arith, c.as_bytes.ensures.len, c.in-len1-up.len_at_least))
    (rw (← c.as_bytes.ensures.value) (is_blank-ascii _ (sym c.is_blank.ensures ∙ c.if-is_blank.true)))
