use Rattle.std.proofs.Common.{◌≡◌, ◌+◌, ◌*◌, ◌≤◌, map, option_map}
use Rattle.std.specs.Vec.Iter.{into_iter_items}
use Rattle.toml.specs.Data.{depth, items_depth, members_depth}
use Rattle.toml.specs.View as toml
use Rattle.serde_json.specs.Data.{no_members}
use Rattle.serde_json.specs.View.{members_view, view}
use Rattle.handlebars_data.specs.TomlText.{items_data, members_data}
use Rattle.handlebars_data.proofs.LineTexts.{with_items}
use Rattle.handlebars_data.proofs.toml_text.+value.Given as goal

-- each call goes further down the value
abbrev pub decreases-value_of : goal.decreases-value_of
decreases-value_of l = 2 * depth (toml.view l.value)

abbrev pub decreases-items_of : goal.decreases-items_of
decreases-items_of l = 2 * items_depth (toml.items_view l.items.items) + 1

abbrev pub decreases-members_of : goal.decreases-members_of
decreases-members_of l = 2 * members_depth (toml.members_view l.members.entries) + 1

-- the items so far, and what is left, give the whole
abbrev pub invariant-items_of-items : goal.invariant-items_of-items
invariant-items_of-items l =
    (option_map (with_items (map view l.values.items)) (items_data (toml.items_view (into_iter_items l.item-iterator))) ≡ items_data (toml.items_view l.fn.items.items))
    × (items_depth (toml.items_view (into_iter_items l.item-iterator)) ≤ items_depth (toml.items_view l.fn.items.items))

-- what is left, put over the members so far, gives the whole
abbrev pub invariant-members_of-members : goal.invariant-members_of-members
invariant-members_of-members l =
    (members_data (toml.members_view l.key-iterator) (members_view l.values.entries) ≡ members_data (toml.members_view l.fn.members.entries) no_members)
    × (members_depth (toml.members_view l.key-iterator) ≤ members_depth (toml.members_view l.fn.members.entries))
