use Rattle.std.proofs.Common.{◌≡◌, ◌++◌, drop, map}
use Rattle.handlebars_entry.proofs.ArgumentsViewed.{data_of_argument, data_passed}
use Rattle.handlebars_entry.proofs.viewed.params_of.Given as goal

-- the values so far, followed by those of the parameters that are left
abbrev pub invariant-params : goal.invariant-params
invariant-params l =
    map data_of_argument l.arguments.items ++ map data_passed (drop l.param-index l.param-items) ≡ map data_passed l.param-items
