use Rattle.std.proofs.Common.{ap, sym, ◌∙◌, ◌==◌, Some, not}
use Rattle.serde_json.proofs.Views.{view-Array, view-Object}
use Rattle.serde_json.specs.View.{view}
use Rattle.handlebars_values.specs.BuiltIn.{has_members}
use Rattle.handlebars_values.proofs.MemberCounts.{length-item_count, length-member_count, zero-tested}
use Rattle.handlebars_values.proofs.by_first.members_in.Goals as goal

pub returns-in-Array : goal.returns-in-Array
returns-in-Array c =
    ap (λ b. Some (not b)) (c.is_empty.ensures ∙ ap (λ n. n == 0) (c.in-Array.items.ok.0 ∙ length-item_count c.in-Array.items.items))
    ∙ ap has_members (sym (view-Array c.in-Array.items)) ∙ ap (λ v. has_members (view v)) (sym c.in-Array.is)

pub returns-in-Object : goal.returns-in-Object
returns-in-Object c =
    ap (λ b. Some (not b)) (zero-tested _ _ c.is_empty-in-Object.ensures
    ∙ ap (λ n. n == 0) (length-member_count c.in-Object.members.entries))
    ∙ ap has_members (sym (view-Object c.in-Object.members)) ∙ ap (λ v. has_members (view v)) (sym c.in-Object.is)
