use Rattle.std.proofs.Common.{◌≡◌, ◌++◌, map}
use Rattle.handlebars_base.specs.PathAndData.{path_and_data}
use Rattle.handlebars_values.specs.View.{arguments_seen}
use Rattle.handlebars_values.proofs.passed.hash_passed.Given as goal

-- the hash arguments that are passed, followed by those that are left, are all hash arguments
abbrev pub invariant-hash : goal.invariant-hash
invariant-hash l =
    map (λ h. (h.0.now, path_and_data h.1)) l.passed.entries ++ arguments_seen l.key-iterator ≡ arguments_seen l.fn.hash.entries
