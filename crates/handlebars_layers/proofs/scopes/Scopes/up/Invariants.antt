use Rattle.std.proofs.Common.{◌≡◌}
use Rattle.handlebars_layers.specs.Frames.{frames_up}
use Rattle.handlebars_layers.specs.Destination.{frames_in}
use Rattle.handlebars_layers.proofs.scopes.Scopes.up.Given as goal

abbrev pub invariant-loop-left : goal.invariant-loop-left
invariant-loop-left l =
    (frames_up (frames_in l.here) l.left ≡ frames_up (frames_in l.fn.self) l.fn.count) × (l.here.given ≡ l.fn.self.given)

abbrev pub decreases-loop-left : goal.decreases-loop-left
decreases-loop-left l = l.left
