use Rattle.std.proofs.Common.{◌≡◌, ◌≤◌, ◌+◌, drop, length}
use Rattle.serde_json.specs.View.{view}
use Rattle.handlebars_base.specs.PathView.{segments_of}
use Rattle.handlebars_scope.specs.Resolve.{names_of, value_at}
use Rattle.handlebars_scope.proofs.context.members.along_segments.Given as goal

-- The names that are left lead from here to where all of them lead from the start, and those that were looked up precede
-- them.
abbrev pub invariant-loop-segment : goal.invariant-loop-segment
invariant-loop-segment l =
    (value_at (view l.here) (names_of (segments_of (drop l.segment-index l.segments)))
    ≡ value_at (view l.given) (names_of (segments_of l.segments)))
    × (l.looked_up + length (names_of (segments_of (drop l.segment-index l.segments)))
    ≤ length (names_of (segments_of l.segments)))
