use denote.Text.{Utf8}
use denote.Shadow.{shadow}
use Rattle.std.proofs.Common.{length}
use Rattle.handlebars_syntax.proofs.reading.read_terms.Given as goal

abbrev pub invariant-steps : goal.invariant-steps
invariant-steps l = record { text : shadow (Utf8 l.stop.rest.now) }

abbrev pub decreases-steps : goal.decreases-steps
decreases-steps l = length l.stop.rest.now
