use Rattle.std.proofs.Common.{arith}
use Rattle.std.proofs.lemmas.Str.{IsCharBoundary-after_ascii}
use Rattle.handlebars_expressions.proofs.marks.after_quote.Goals as goal

pub range_from-requires : goal.range_from-requires
range_from-requires c = λ _.
    IsCharBoundary-after_ascii c.args.text.now c.loop-n.n c.utf8.text
    (omega (arith, c.as_bytes-bytes.ensures.len, c.loop-n-test.true))
    (rw (← c.as_bytes-bytes.ensures.value) (omega (arith, c.if-byte-quote.true)))
