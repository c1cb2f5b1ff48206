use Rattle.std.proofs.Common.{◌≡◌, None, bytes_eq, map, take}
use Rattle.std.specs.Map.{update_all}
use Rattle.handlebars_base.specs.Bytes.{Text}
use Rattle.handlebars_helpers.specs.Callee.{built}
use Rattle.handlebars_helpers.specs.EntryView.{callees_of}
use Rattle.handlebars_helpers.specs.View.{built_in_kind}
use Rattle.handlebars_helpers.proofs.first.built_in_helpers.Given as goal

-- The entries are those of the rows before this one, inserted in order into an empty map.
abbrev pub invariant-all : goal.invariant-all
invariant-all g l = (other : Text) → callees_of l.helpers other
    ≡ update_all bytes_eq (λ _. None) (map (λ row. (row.0.now, built (built_in_kind row.1))) (take l.name-index l.name-items)) other
