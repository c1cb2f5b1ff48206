use Rattle.std.proofs.Common.{◌≡◌, drop}
use Rattle.std.specs.Slice.Iter.{iter_rest}
use Rattle.serde_json.specs.View.{items_view, members_view}
use Rattle.handlebars_base.specs.Equal.{items_equal, members_equal}
use Rattle.handlebars_base.proofs.json.value.equality.+equal.Given as goal

-- what is left on both sides is equal exactly if the whole is
abbrev pub invariant-items_equal-items : goal.invariant-items_equal-items
invariant-items_equal-items l =
    items_equal (items_view (drop l.item-index l.item-items)) (items_view (iter_rest l.rest))
    ≡ items_equal (items_view l.item-items) (items_view l.others.items)

abbrev pub invariant-members_equal-members : goal.invariant-members_equal-members
invariant-members_equal-members l =
    members_equal (members_view l.key-iterator) (members_view l.rest)
    ≡ members_equal (members_view l.members.entries) (members_view l.others.entries)
