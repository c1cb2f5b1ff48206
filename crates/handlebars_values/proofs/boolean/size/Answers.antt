use Rattle.std.proofs.Common.{ap, sym, ◌∙◌}
use Rattle.serde_json.proofs.Views.{view-Array, view-Object}
use Rattle.serde_json.specs.View.{view}
use Rattle.handlebars_helpers.specs.Boolean.{size}
use Rattle.handlebars_values.proofs.MemberCounts.{length-item_count, length-member_count}
use Rattle.handlebars_values.proofs.boolean.size.Goals as goal

pub returns-in-Array : goal.returns-in-Array
returns-in-Array c =
    c.len.ensures ∙ c.in-Array.items.ok.0 ∙ length-item_count c.in-Array.items.items
    ∙ ap size (sym (view-Array c.in-Array.items)) ∙ ap (λ v. size (view v)) (sym c.in-Array.is)

pub returns-in-Object : goal.returns-in-Object
returns-in-Object c =
    c.len-in-Object.ensures.len ∙ length-member_count c.in-Object.members.entries
    ∙ ap size (sym (view-Object c.in-Object.members)) ∙ ap (λ v. size (view v)) (sym c.in-Object.is)
