use Rattle.std.proofs.Common.{◌≡◌, ◌-◌, drop, length}
use Rattle.handlebars_scope.specs.ScopeView.{frames_of}
use Rattle.handlebars_semantics.specs.State.{partial_in}
use Rattle.handlebars_layers.specs.ScopeFrames.{further_frames}
use Rattle.handlebars_layers.proofs.partials.in_further.Given as goal

-- no frame so far has the partial, so those that are left decide
abbrev pub invariant-frames : goal.invariant-frames
invariant-frames l =
    partial_in (drop l.here (frames_of l.frames.items)) l.name ≡ partial_in (further_frames (frames_of l.frames.items)) l.name

abbrev pub decreases-frames : goal.decreases-frames
decreases-frames l = length l.frames.items - l.here
