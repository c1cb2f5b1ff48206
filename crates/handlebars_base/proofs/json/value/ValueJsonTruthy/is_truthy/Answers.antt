use Rattle.std.proofs.Common.{◌≡◌, ◌==◌, not, sym, ap, ◌∙◌, arith, length, vec_len}
use Rattle.std.proofs.lemmas.Bool.Decides.{same_from_decides, Decides-eqb}
use Rattle.std.specs.BTreeMap.{btree_map_len}
use Rattle.serde_json.proofs.Views.{view-Array, view-Object}
use Rattle.serde_json.specs.View.{view}
use Rattle.handlebars_base.specs.Values.{truth}
use Rattle.handlebars_base.proofs.Truths.{has_items-view, has_members-view}
use Rattle.handlebars_base.proofs.json.value.ValueJsonTruthy.is_truthy.Goals as goal

pub returns-in-Array : goal.returns-in-Array
returns-in-Array c =
    let v = c.in-Array.items in
    let same : vec_len v ≡ length v.items = omega (arith, v.ok.0) in
    ap not (c.is_empty-in-Array.ensures ∙ ap (λ n. n == 0) same) ∙ sym (has_items-view v.items)
    ∙ ap (truth c.args.include_zero) (sym (view-Array v) ∙ ap view (sym c.in-Array.is))

pub returns-in-Object : goal.returns-in-Object
returns-in-Object c =
    let m = c.in-Object.members in
    ap not (same_from_decides _ (btree_map_len m == 0) c.is_empty-in-Object.ensures (Decides-eqb _ _)) ∙ sym (has_members-view m.entries)
    ∙ ap (truth c.args.include_zero) (sym (view-Object m) ∙ ap view (sym c.in-Object.is))
