use Rattle.std.proofs.Common.{◌≡◌}
use Rattle.handlebars_layers.specs.Chain.{frames_outside}
use Rattle.handlebars_layers.specs.LayerView.{chain_of}
use Rattle.handlebars_layers.proofs.outside.frames_outside.Given as goal

abbrev pub invariant-loop-here : goal.invariant-loop-here
invariant-loop-here l = frames_outside (chain_of l.here) ≡ frames_outside (chain_of l.layer)
