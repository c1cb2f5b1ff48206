use denote.Text.{Utf8}
use denote.Shadow.{shadow}
use Rattle.std.proofs.Common.{length}
use Rattle.handlebars_syntax.proofs.literals.literal_in.Given as goal

abbrev pub invariant-steps : goal.invariant-steps
invariant-steps l = record { text : shadow (Utf8 l.rest) }

abbrev pub decreases-steps : goal.decreases-steps
decreases-steps l = length l.rest
