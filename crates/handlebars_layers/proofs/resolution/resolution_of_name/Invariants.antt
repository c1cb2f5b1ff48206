use Rattle.std.proofs.Common.{◌≡◌, length}
use Rattle.handlebars_base.specs.PathView.{segments_of}
use Rattle.handlebars_scope.specs.Resolve.{resolution_of_name}
use Rattle.handlebars_layers.specs.Destination.{frames_in}
use Rattle.handlebars_layers.proofs.resolution.resolution_of_name.Given as goal

-- no frame so far binds the name, so those that are left decide
abbrev pub invariant-loop-bound : goal.invariant-loop-bound
invariant-loop-bound l =
    (resolution_of_name (frames_in l.here) l.name (segments_of l.rest)
    ≡ resolution_of_name (frames_in l.fn.scopes) l.name (segments_of l.rest))
    × (l.here.given ≡ l.fn.scopes.given)

abbrev pub decreases-loop-bound : goal.decreases-loop-bound
decreases-loop-bound l = length (frames_in l.here)
