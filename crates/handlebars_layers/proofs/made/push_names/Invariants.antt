use Rattle.std.proofs.Common.{◌≡◌, ◌++◌, length, reverse}
use Rattle.handlebars_scope.specs.ResolutionView.{names_in}
use Rattle.handlebars_layers.proofs.made.push_names.Given as goal

-- the names so far, and those that are left
abbrev pub invariant-names : goal.invariant-names
invariant-names l =
    names_in l.path.items ++ reverse (names_in l.left) ≡ names_in l.initial.path.items ++ reverse (names_in l.names)

abbrev pub decreases-names : goal.decreases-names
decreases-names l = length l.left
