-- The nearest partial of a name, by the last entry and those before it.
use Rattle.std.proofs.Common.{◌≡◌, ◌≢◌, inl, inr, ◌<◌, ◌≤◌, ℕ, zero, suc, arith, length, List, [], ◌∷◌, ◌++◌, Option, Some, None, refl, sym, ap, ◌∙◌}
use Rattle.std.proofs.lemmas.Bool.{cases_eq, cases_lt}
use Rattle.handlebars_base.specs.Bytes.{Text}
use Rattle.handlebars_template.specs.Tree.{Tree}
use Rattle.handlebars_scope.specs.Resolve.{or_else}
use Rattle.handlebars_layers.specs.NearestPartial.{nearest_partial}
use Rattle.handlebars_layers.specs.PartialsByDepth.{partials_at, partials_in}
use Rattle.handlebars_layers.specs.PartialsView.{partials_of}
use Rattle.handlebars_layers.specs.RisingDepths.{Rises, depths_of}
use Rattle.handlebars_layers.specs.declared.partials.OfFrame.{OfFrame}
use Rattle.handlebars_layers.specs.declared.partials.Partials.{Partials}
use Rattle.handlebars_layers.proofs.Depths.{before-split, layer-split, none-from, other-at, split-at}

-- ---- partials by depth and name

-- if the frames from this depth on have the same under the name
nearest-same : (some others : ℕ → Text → Option Tree) (k : ℕ) (name : Text)
    → ((d : ℕ) → d ≤ k → some d name ≡ others d name) → nearest_partial some k name ≡ nearest_partial others k name
nearest-same some others zero name same = refl
nearest-same some others (suc k) name same =
    ap (λ own. or_else own (nearest_partial some k name)) (same (suc k) (omega arith))
    ∙ ap (or_else (others (suc k) name)) (nearest-same some others k name (λ d near. same d (omega arith)))

-- if no frame that is deeper than d has any
nearest-from : (partials : ℕ → Text → Option Tree) (k d : ℕ) (name : Text) → d ≤ k
    → ((e : ℕ) → d < e → partials e name ≡ None) → nearest_partial partials k name ≡ nearest_partial partials d name
nearest-from partials zero d name near none =
    let same : 0 ≡ d = omega arith in
    ap (λ e. nearest_partial partials e name) same
nearest-from partials (suc k) d name near none = elim (cases_lt k d) [
  | inl here ↦
      let same : suc k ≡ d = omega arith in
      ap (λ e. nearest_partial partials e name) same
  | inr further ↦
      ap (λ own. or_else own (nearest_partial partials k name)) (none (suc k) (omega arith))
      ∙ nearest-from partials k d name further none
]

nearest-own : (partials : ℕ → Text → Option Tree) (d : ℕ) (name : Text) (t : Tree) → 0 < d → partials d name ≡ Some t
    → nearest_partial partials d name ≡ Some t
nearest-own partials zero name t layer is = absurd (omega arith)
nearest-own partials (suc d) name t layer is = ap (λ own. or_else own (nearest_partial partials d name)) is

-- ---- no entries

none-nearest : (k : ℕ) (name : Text) → nearest_partial (partials_at []) k name ≡ None
none-nearest zero name = refl
none-nearest (suc k) name = none-nearest k name

pub nearest-none : (es : List OfFrame) (k : ℕ) (name : Text) → length es < 1 → nearest_partial (partials_at es) k name ≡ None
nearest-none [] k name less = none-nearest k name
nearest-none (e ∷ es) k name less = absurd (omega arith)

-- ---- entries, split into the last one and those before it

module _ (es fs : List OfFrame) (f : OfFrame) (split : es ≡ fs ++ f ∷ []) (rising : Rises 1 (depths_of es)) where
  other-named : (d : ℕ) (name : Text) → d ≢ f.depth → partials_at es d name ≡ partials_at fs d name
  other-named d name differ =
      ap (λ (gs : List OfFrame). partials_at gs d name) split
      ∙ ap (λ (partials : Text → Option Tree). partials name) (other-at fs f d differ)

  none-named : (d : ℕ) (name : Text) → f.depth ≤ d → partials_at fs d name ≡ None
  none-named d name deep =
      ap (λ (partials : Text → Option Tree). partials name) (none-from fs f.depth d (before-split es fs f split rising) deep)

  last-named : (name : Text) → partials_at es f.depth name ≡ partials_in f name
  last-named name = ap (λ (partials : Text → Option Tree). partials name) (split-at es fs f split rising)

  -- The last entry has the partial, and its frame is no deeper.
  pub nearest-last : (k : ℕ) (name : Text) (t : Tree) → f.depth ≤ k → partials_in f name ≡ Some t
      → nearest_partial (partials_at es) k name ≡ Some t
  nearest-last k name t near is =
      let none : (e : ℕ) → f.depth < e → partials_at es e name ≡ None = λ e deeper.
      other-named e name (λ same. omega arith) ∙ none-named e name (omega arith) in
      nearest-from (partials_at es) k f.depth name near none
      ∙ nearest-own (partials_at es) f.depth name t (layer-split es fs f split rising) (last-named name ∙ is)

  -- The last entry lacks the partial.
  pub nearest-past : (k : ℕ) (name : Text) → partials_in f name ≡ None
      → nearest_partial (partials_at fs) k name ≡ nearest_partial (partials_at es) k name
  nearest-past k name is =
      let same : (d : ℕ) → d ≤ k → partials_at es d name ≡ partials_at fs d name = λ d near.
      elim (cases_eq d f.depth) [
        | inl here ↦
            ap (λ (e : ℕ). partials_at es e name) here ∙ last-named name ∙ is ∙ sym (none-named d name (omega arith))
        | inr differ ↦ other-named d name differ
      ] in
      sym (nearest-same (partials_at es) (partials_at fs) k name same)

  -- The frame of the last entry is deeper.
  pub nearest-around : (k : ℕ) (name : Text) → k < f.depth
      → nearest_partial (partials_at fs) k name ≡ nearest_partial (partials_at es) k name
  nearest-around k name deep =
      let same : (d : ℕ) → d ≤ k → partials_at es d name ≡ partials_at fs d name = λ d near.
      other-named d name (λ e. omega arith) in
      sym (nearest-same (partials_at es) (partials_at fs) k name same)

-- ---- the layers of the struct

-- no layer has the depth 0, so the ground isn't asked
pub nearest-layers : (p : Partials) (k : ℕ) (name : Text)
    → nearest_partial (partials_at p.all.items) k name ≡ nearest_partial (partials_of p) k name
nearest-layers p zero name = refl
nearest-layers p (suc k) name = ap (or_else (partials_at p.all.items (suc k) name)) (nearest-layers p k name)
