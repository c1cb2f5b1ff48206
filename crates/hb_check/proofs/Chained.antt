-- Notes, one after another.
use Rattle.std.proofs.Common.{◌≡◌, ℕ, ◌+◌, List, [], ◌∷◌, ◌++◌, None, Some, sym, ap, subst, ◌∙◌, append_assoc, append-nil}
use Rattle.handlebars_base.specs.Bytes.{Text}
use Rattle.handlebars_report.specs.Problem.{Note}
use Rattle.hb_check.specs.Chains.{IsChain, IsNoteOf, ends, full, includer_at, step}
use Rattle.hb_check.specs.declared.chains.Includer.{Includer}
use Rattle.hb_check.specs.declared.chains.Way.{Way}
use Rattle.hb_check.specs.declared.sources.Sources.{Sources}

module _ (ss : Sources) (names : List Text) (ways : List Way) (n i : ℕ) (notes : List Note) where
  -- With the notes of this template in so many steps, these are the notes of that one.
  abbrev pub Continues : ℕ → ℕ → Type 0
  Continues k at = (ns : List Note) → IsChain ss names ways k at ns → IsChain ss names ways n i (notes ++ ns)

  pub continues-first : (k : ℕ) → k ≡ n → notes ≡ [] → Continues k i
  continues-first k all none = λ ns chain.
      subst (λ (xs : List Note). IsChain ss names ways n i (xs ++ ns)) (sym none)
      (subst (λ (m : ℕ). IsChain ss names ways m i ns) all chain)

  pub continues-ends : (k at : ℕ) → includer_at ways at ≡ None → Continues k at → IsChain ss names ways n i notes
  continues-ends k at is rest = subst (IsChain ss names ways n i) (append-nil notes) (rest [] (ends is))

  pub continues-all : (k at : ℕ) → k ≡ 0 → Continues k at → IsChain ss names ways n i notes
  continues-all k at none rest =
      subst (IsChain ss names ways n i) (append-nil notes)
      (rest [] (subst (λ (m : ℕ). IsChain ss names ways m at []) (sym none) full))

pub continues-next : (ss : Sources) (names : List Text) (ways : List Way) (n i : ℕ) (notes more : List Note) (k l at : ℕ) (x : Includer)
    (note : Note) → l + 1 ≡ k → includer_at ways at ≡ Some x → IsNoteOf ss names x note → more ≡ notes ++ note ∷ []
    → Continues ss names ways n i notes k at → Continues ss names ways n i more l x.template
continues-next ss names ways n i notes more k l at x note less is one are rest = λ ns chain.
    subst (IsChain ss names ways n i) (sym (ap (λ (xs : List Note). xs ++ ns) are ∙ append_assoc notes (note ∷ []) ns))
    (rest (note ∷ ns) (subst (λ (m : ℕ). IsChain ss names ways m at (note ∷ ns)) less (step is one chain)))
