use Rattle.std.proofs.Common.{◌≡◌, ◌++◌}
use Rattle.handlebars_semantics.specs.Inclusion.{hash_data}
use Rattle.handlebars_layers.specs.FrameValues.{hash_values}
use Rattle.handlebars_values.specs.View.{arguments_seen}
use Rattle.handlebars_values.proofs.inclusion.bound_hash.Given as goal

-- the arguments so far, and those that are left
abbrev pub invariant-hash : goal.invariant-hash
invariant-hash l = hash_values l.bound.items ++ hash_data (arguments_seen l.key-iterator) ≡ hash_data (arguments_seen l.hash.entries)
