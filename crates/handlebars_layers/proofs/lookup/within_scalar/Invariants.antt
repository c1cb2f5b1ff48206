use Rattle.std.proofs.Common.{◌≡◌, length}
use Rattle.handlebars_base.specs.PathView.{segments_of}
use Rattle.handlebars_scope.specs.Resolve.{names_of}
use Rattle.handlebars_layers.proofs.lookup.within_scalar.Given as goal

-- no name so far
abbrev pub invariant-loop-left : goal.invariant-loop-left
invariant-loop-left l = names_of (segments_of l.left) ≡ names_of (segments_of l.rest)

abbrev pub decreases-loop-left : goal.decreases-loop-left
decreases-loop-left l = length l.left
