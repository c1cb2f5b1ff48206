use Rattle.std.proofs.Common.{arith}
use Rattle.std.proofs.lemmas.Str.{IsCharBoundary-after_ascii}
use Rattle.handlebars_base.proofs.json.path.marks.after_up.Goals as goal

pub range_from-requires : goal.range_from-requires
range_from-requires c = λ _. IsCharBoundary-after_ascii c.args.text.now 2 c.utf8.text (omega (arith, c.as_bytes.ensures.len)) (rw (← c.as_bytes.ensures.value) (omega arith))
