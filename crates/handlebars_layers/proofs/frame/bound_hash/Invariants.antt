use Rattle.std.proofs.Common.{◌≡◌, ◌≤◌, length, take}
use Rattle.handlebars_scope.specs.Scopes.{nothing_at}
use Rattle.handlebars_semantics.specs.Inclusion.{with_bound}
use Rattle.handlebars_layers.specs.FrameValues.{hash_values}
use Rattle.handlebars_layers.proofs.frame.bound_hash.Given as goal

-- no argument so far has the name, so those before them decide
abbrev pub invariant-hash : goal.invariant-hash
invariant-hash l = record {
  inside : l.left ≤ length l.hash;
  bound : with_bound (hash_values (take l.left l.hash)) nothing_at l.name ≡ with_bound (hash_values l.hash) nothing_at l.name;
}

abbrev pub decreases-hash : goal.decreases-hash
decreases-hash l = l.left
