use Rattle.std.proofs.Common.{◌≡◌, ◌+◌, ◌*◌, ◌≤◌}
use Rattle.serde_json.specs.Data.{depth, members_depth}
use Rattle.serde_json.specs.View.{members_view, view}
use Rattle.handlebars_data.specs.Merge.{merged_members}
use Rattle.handlebars_data.proofs.merging.+merge.Given as goal

-- each call goes further down the later source
abbrev pub decreases-merge : goal.decreases-merge
decreases-merge l = 4 * depth (view l.over)

abbrev pub decreases-merge_object : goal.decreases-merge_object
decreases-merge_object l = 4 * members_depth (members_view l.over.entries) + 3

abbrev pub decreases-merge_member : goal.decreases-merge_member
decreases-merge_member l = 4 * depth (view l.value) + 1

abbrev pub decreases-merge_members : goal.decreases-merge_members
decreases-merge_members l = 4 * members_depth (members_view l.over.entries) + 2

-- what is left, put over the members so far, gives the whole
abbrev pub invariant-merge_members-over : goal.invariant-merge_members-over
invariant-merge_members-over l =
    (merged_members (members_view l.members.entries) (members_view l.key-iterator) ≡ merged_members (members_view l.fn.base.entries) (members_view l.fn.over.entries))
    × (members_depth (members_view l.key-iterator) ≤ members_depth (members_view l.fn.over.entries))
