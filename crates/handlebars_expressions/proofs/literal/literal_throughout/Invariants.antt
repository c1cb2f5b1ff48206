use Rattle.std.proofs.Common.{length}
use denote.Text.{Utf8}
use denote.Shadow.{shadow}
use Rattle.handlebars_expressions.proofs.LiteralLoop.{LoopInvariant, reading_position}
use Rattle.handlebars_expressions.proofs.literal.literal_throughout.Given as goal

abbrev pub invariant-reading : goal.invariant-reading
invariant-reading l = record {
  text : shadow (Utf8 l.rest);
  holds : LoopInvariant l.fn.text (reading_position l.ahead l.around.items) (length l.around.items) l.rest l.depth l.in_range;
}

abbrev pub decreases-reading : goal.decreases-reading
decreases-reading l = length l.rest
