use Rattle.std.proofs.Common.{◌≡◌}
use Rattle.serde_json.specs.View.{members_view}
use Rattle.handlebars_scope.specs.Merged.{with_hash}
use Rattle.handlebars_semantics.specs.Inclusion.{hash_data}
use Rattle.handlebars_values.specs.View.{arguments_seen}
use Rattle.handlebars_values.proofs.merge.with_hash.Given as goal

-- the members so far, with the hash arguments that are left, are those of the value with all hash arguments
abbrev pub invariant-hash : goal.invariant-hash
invariant-hash l = with_hash (hash_data (arguments_seen l.key-iterator)) (members_view l.all.entries)
    ≡ with_hash (hash_data (arguments_seen l.hash.entries)) (members_view l.fn.members.entries)
