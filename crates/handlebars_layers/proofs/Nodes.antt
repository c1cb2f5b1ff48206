-- The values of layers are what their names lead to.
use Rattle.std.proofs.Common.{◌≡◌, ℕ, List, ◌++◌, Option, Some, None, append_assoc, refl, sym, ap, ◌∙◌, subst}
use Rattle.serde_json.specs.Data.{Data}
use Rattle.handlebars_base.specs.Answers.{Answer, answer_map, gives, fails}
use Rattle.handlebars_base.specs.Bytes.{Text}
use Rattle.handlebars_base.specs.Reasons.{Refusal}
use Rattle.handlebars_base.specs.Scoped.{missing}
use Rattle.handlebars_scope.specs.Resolve.{along, found_along, found_by, then_at, value_at}
use Rattle.handlebars_scope.proofs.Resolutions.{value_at-append, value_at-on}
use Rattle.handlebars_layers.specs.Chain.{Chain, LayerKind, NodesAreThere, IsValue, frames_from, kind_names, names_at, names_from, node_layer}

pub leads : (a : Answer (Option Data)) (v : Data) → IsValue a v → a ≡ gives (Some v)
leads (gives (Some e)) v h = ap (λ x. gives (Some x)) h
leads (gives None) v h = absurd h
leads (fails r) v h = absurd h

pub leads-of : (a : Answer (Option Data)) (v : Data) → a ≡ gives (Some v) → IsValue a v
leads-of a v is = subst (λ b. IsValue b v) (sym is) refl

-- what names lead to from a base is what all of them lead to
pub found-from : (d e : Data) (xs ys : List Text) (a : Answer (Option Data)) → gives (Some e) ≡ value_at d xs → a ≡ value_at e ys
    → answer_map (found_along (xs ++ ys)) a ≡ found_by (along (xs ++ ys)) d
found-from d e xs ys a base is = ap (answer_map (found_along (xs ++ ys))) (is ∙ sym (value_at-on d e xs ys (sym base)))

-- if the base is missing, or if the names of the base fail, so do all of them
pub found-nothing : (d : Data) (xs ys : List Text) → gives None ≡ value_at d xs → gives missing ≡ found_by (along (xs ++ ys)) d
found-nothing d xs ys is =
    ap (answer_map (found_along (xs ++ ys))) (sym (value_at-append d xs ys ∙ ap (λ a. then_at a (λ e. value_at e ys)) (sym is)))

pub found-fails : (d : Data) (xs ys : List Text) (r : Refusal) → fails r ≡ value_at d xs → fails r ≡ found_by (along (xs ++ ys)) d
found-fails d xs ys r is =
    ap (answer_map (found_along (xs ++ ys))) (sym (value_at-append d xs ys ∙ ap (λ a. then_at a (λ e. value_at e ys)) (sym is)))

-- ---- a layer of the data

module _ (d : Data) (c : Chain) (v : Data) (start : Chain) (n : ℕ) (names : List Text) (kind : LayerKind) (outer : Chain)
    (is : c ≡ node_layer v start n names kind outer) where
  pub node-names : (m : ℕ) → names_at (frames_from c m) ≡ names_at (frames_from start n) ++ (names ++ kind_names kind)
  node-names m = ap (λ x. names_at (frames_from x m)) is

  pub node-value : NodesAreThere d c → value_at d (names_at (frames_from start n) ++ (names ++ kind_names kind)) ≡ gives (Some v)
  node-value lead =
      leads (value_at d (names_at (frames_from start n) ++ (names ++ kind_names kind))) v (subst (NodesAreThere d) is lead).0

  pub node-start : NodesAreThere d c → NodesAreThere d start
  node-start lead = (subst (NodesAreThere d) is lead).1

-- A layer is where the names of a route lead, and then the name of the member, if it is that of an iteration.
pub layer-there : (d v : Data) (start outer : Chain) (n : ℕ) (names : List Text) (kind : LayerKind)
    → IsValue (value_at d (names_from start n names ++ kind_names kind)) v → NodesAreThere d start → NodesAreThere d outer
    → NodesAreThere d (node_layer v start n names kind outer)
layer-there d v start outer n names kind is started around = (
  subst (λ all. IsValue (value_at d all) v) (append_assoc (names_at (frames_from start n)) names (kind_names kind)) is,
  started,
  around,
)
