use Rattle.std.proofs.Common.{◌≡◌, ◌++◌, length, reverse}
use Rattle.handlebars_base.specs.PathView.{segments_of}
use Rattle.handlebars_scope.specs.Resolve.{names_of}
use Rattle.handlebars_scope.specs.ResolutionView.{names_in}
use Rattle.handlebars_layers.proofs.made.push_segments.Given as goal

-- the names so far, and those that are left
abbrev pub invariant-segments : goal.invariant-segments
invariant-segments l =
    names_in l.path.items ++ reverse (names_of (segments_of l.left))
    ≡ names_in l.initial.path.items ++ reverse (names_of (segments_of l.segments))

abbrev pub decreases-segments : goal.decreases-segments
decreases-segments l = length l.left
