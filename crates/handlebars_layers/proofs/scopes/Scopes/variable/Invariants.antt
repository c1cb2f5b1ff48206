use Rattle.std.proofs.Common.{◌≡◌}
use Rattle.handlebars_semantics.specs.State.{nearest_variables}
use Rattle.handlebars_layers.specs.Chain.{frames_from}
use Rattle.handlebars_layers.specs.LayerView.{chain_of}
use Rattle.handlebars_layers.specs.Destination.{frames_in}
use Rattle.handlebars_layers.proofs.scopes.Scopes.variable.Given as goal

abbrev pub invariant-loop-here : goal.invariant-loop-here
invariant-loop-here l =
    nearest_variables (frames_from (chain_of l.here) l.skipped) l.name ≡ nearest_variables (frames_in l.fn.self) l.name
