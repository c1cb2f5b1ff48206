use Rattle.std.proofs.Common.{length, ◌-◌, ◌≡◌, ◌≤◌, false, drop}
use Rattle.handlebars_expressions.specs.LiteralReading.{after_quote}
use Rattle.handlebars_expressions.proofs.marks.after_quote.Given as goal

abbrev pub invariant-loop-n : goal.invariant-loop-n
invariant-loop-n l = record {
  within : l.n ≤ length l.bytes;
  same : after_quote l.quote l.escaped (drop l.n l.bytes) ≡ after_quote l.quote false l.bytes;
}

abbrev pub decreases-loop-n : goal.decreases-loop-n
decreases-loop-n l = length l.bytes - l.n
