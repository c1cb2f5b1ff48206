use Rattle.std.proofs.Common.{arith, sym, ◌∙◌}
use Rattle.std.proofs.lemmas.Str.{IsCharBoundary-after_ascii}
use Rattle.handlebars_base.proofs.json.path.marks.after_white.Goals as goal
use Rattle.handlebars_base.proofs.Bytes.{is_white-ascii}

pub split_at-requires : goal.split_at-requires
split_at-requires c =
    IsCharBoundary-after_ascii c.loop-first.rest.now 0 c.loop-first.invariant.text
    (omega (arith, c.as_bytes.ensures.len, c.in-len1-up.len_at_least))
    (rw (← c.as_bytes.ensures.value) (is_white-ascii _ (sym c.is_white.ensures ∙ c.if-is_white.true)))
