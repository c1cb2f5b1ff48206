use Rattle.std.proofs.Common.{◌≡◌, length}
use Rattle.std.specs.Vec.Iter.{into_iter_items, into_iter_len}
use Rattle.serde_json.specs.Data.{no_members}
use Rattle.serde_json.specs.View.{items_view, members_view}
use Rattle.handlebars_scope.specs.Merged.{with_items}
use Rattle.handlebars_values.proofs.merge.items_by_position.Given as goal

-- the members so far, with the items that are left, are the members by position of all items
abbrev pub invariant-items : goal.invariant-items
invariant-items l = record {
  left : with_items l.index-iterator.count (items_view (into_iter_items l.index-iterator.iter)) (members_view l.members.entries)
      ≡ with_items 0 (items_view l.fn.items.items) no_members;
  sized : into_iter_len l.index-iterator.iter ≡ length (into_iter_items l.index-iterator.iter);
}
