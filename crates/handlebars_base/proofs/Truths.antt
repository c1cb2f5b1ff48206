-- Whether a `Value`'s arrays and objects have members.
use Rattle.std.proofs.Common.{◌≡◌, not, List, [], ◌∷◌, length, ◌==◌, refl, sym, ap}
use Rattle.std.proofs.Math.Dec.{eqb-suc-zero}
use Rattle.serde_json.proofs.Views.{Entry}
use Rattle.serde_json.specs.View.{items_view, members_view}
use Rattle.serde_json.specs.declared.value.Value.{Value}
use Rattle.handlebars_base.specs.Values.{has_items, has_members}

pub has_items-view : (vs : List Value) → has_items (items_view vs) ≡ not (length vs == 0)
has_items-view [] = refl
has_items-view (v ∷ vs) = sym (ap not (eqb-suc-zero (length vs)))

pub has_members-view : (es : List Entry) → has_members (members_view es) ≡ not (length es == 0)
has_members-view [] = refl
has_members-view (e ∷ es) = sym (ap not (eqb-suc-zero (length es)))
