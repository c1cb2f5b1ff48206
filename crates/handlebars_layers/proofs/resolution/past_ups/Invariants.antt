use Rattle.std.proofs.Common.{◌≡◌, ◌+◌, ◌≤◌, length}
use Rattle.handlebars_base.specs.PathView.{segments_of}
use Rattle.handlebars_scope.specs.Resolve.{after_ups, ups_in}
use Rattle.handlebars_layers.proofs.resolution.past_ups.Given as goal

-- the `..` so far, and those at the start of what is left, are all
abbrev pub invariant-loop-after : goal.invariant-loop-after
invariant-loop-after l =
    (l.ups + length l.after ≤ length l.segments)
    × (l.ups + ups_in (segments_of l.after) ≡ ups_in (segments_of l.segments))
    × (after_ups (segments_of l.after) ≡ after_ups (segments_of l.segments))

abbrev pub decreases-loop-after : goal.decreases-loop-after
decreases-loop-after l = length l.after
