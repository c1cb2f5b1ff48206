use Rattle.std.proofs.Common.{◌≡◌, ◌++◌, reverse}
use Rattle.handlebars_scope.specs.ResolutionView.{names_in}
use Rattle.handlebars_layers.specs.LayerView.{descent_names}
use Rattle.handlebars_layers.proofs.made.push_descent.Given as goal

-- the names so far, and those of the descents that are left
abbrev pub invariant-descents : goal.invariant-descents
invariant-descents l =
    names_in l.path.items ++ reverse (descent_names l.here) ≡ names_in l.initial.path.items ++ reverse (descent_names l.descent)
