use Rattle.std.proofs.Common.{◌≡◌, ◌++◌, reverse}
use Rattle.handlebars_scope.specs.ResolutionView.{names_in}
use Rattle.handlebars_layers.specs.Chain.{frames_from, names_at}
use Rattle.handlebars_layers.specs.LayerView.{chain_of}
use Rattle.handlebars_layers.specs.Destination.{route_names}
use Rattle.handlebars_layers.proofs.made.path_of.Given as goal

-- the names that lead to where the route is by now, and those after them, which stand in reverse
abbrev pub invariant-loop-here : goal.invariant-loop-here
invariant-loop-here l =
    names_at (frames_from (chain_of l.here) l.skipped) ++ reverse (names_in l.path.items) ≡ route_names l.fn.route
