use Rattle.std.proofs.Common.{◌≡◌, ℕ, ◌+◌, ◌*◌, ◌<◌, ◌≤◌, length, map}
use Rattle.serde_json.specs.View.{view, members_view}
use Rattle.handlebars_data.specs.JsonReading.{value_from, items_from, members_from, all_items, all_members}
use Rattle.handlebars_data.proofs.json_value.+value.Given as goal

abbrev pub decreases-read_value : goal.decreases-read_value
decreases-read_value l = 2 * l.depth

abbrev pub decreases-read_items : goal.decreases-read_items
decreases-read_items l = 2 * l.depth + 1

abbrev pub decreases-read_members : goal.decreases-read_members
decreases-read_members l = 2 * l.depth + 1

abbrev pub invariant-read_items-items : goal.invariant-read_items-items
invariant-read_items-items l =
    (n : ℕ) × (length l.reader < n) × (length l.reader ≤ length l.initial.reader)
    × (all_items (value_from l.numbers l.depth) l.initial.reader ≡ items_from (value_from l.numbers l.depth) n (map view l.found.items) l.reader)

abbrev pub decreases-read_items-items : goal.decreases-read_items-items
decreases-read_items-items l = length l.reader

abbrev pub invariant-read_members-members : goal.invariant-read_members-members
invariant-read_members-members l =
    (n : ℕ) × (length l.reader < n) × (length l.reader ≤ length l.initial.reader)
    × (all_members (value_from l.numbers l.depth) l.initial.reader ≡ members_from (value_from l.numbers l.depth) n (members_view l.found.entries) l.reader)

abbrev pub decreases-read_members-members : goal.decreases-read_members-members
decreases-read_members-members l = length l.reader
