-- The numbers of names.
use Rattle.std.proofs.Common.{◌≡◌, ◌≢◌, ℕ, ◌⊎◌, cond, List, [], ◌∷◌, ◌++◌, Option, Some, None, length, ap, inl, inr, slice_get, sym, ◌∙◌, arith, get_or}
use Rattle.std.specs.List.{All}
use Rattle.std.specs.Str.{bytes_eq}
use Rattle.std.proofs.lemmas.Option.{slice_get-get_or}
use Rattle.hb_build.specs.Name.{Name, IsNumbering, IsAcceptable, IsFolderOf, AreAcceptable}
use Rattle.hb_build.proofs.Bytes.{bytes_cases}
use Rattle.hb_build.proofs.Gets.{slice_get-append, slice_get-push, slice_get-push_cases, slice_get-from_Contains}

module _ (names : List Name) (name : Name) (old new : Name → Option ℕ) (n : IsNumbering names old) (none : old name ≡ None)
    (next : ℕ) (is_next : next ≡ length names) (is_new : (q : Name) → new q ≡ cond (bytes_eq name q) (Some next) (old q)) where
  new_at : (x : Name) → ((x ≡ name) × (new x ≡ Some next)) ⊎ ((x ≢ name) × (new x ≡ old x))
  new_at x = elim (bytes_cases name x) [
    | inl h ↦ inl (sym h.1, is_new x ∙ ap (λ b. cond b (Some next) (old x)) h.0)
    | inr h ↦ inr ((λ e. h.1 (sym e)), is_new x ∙ ap (λ b. cond b (Some next) (old x)) h.0)
  ]

  new_each : (k : ℕ) (x : Name) → slice_get (names ++ name ∷ []) k ≡ Some x → new x ≡ Some k
  new_each k x at = elim (slice_get-push_cases names name k x at) [
    | inl h ↦ elim (new_at x) [
      | inl s ↦ (let none_here : old x ≡ None = ap old s.0 ∙ none in let some_here = n.each k x h in absurd cc)
      | inr s ↦ s.1 ∙ n.each k x h
    ]
    | inr h ↦ elim (new_at x) [ inl s ↦ s.1 ∙ ap Some (is_next ∙ sym h.0) | inr s ↦ absurd (s.0 h.1) ]
  ]

  new_only : (x : Name) (k : ℕ) → new x ≡ Some k → slice_get (names ++ name ∷ []) k ≡ Some x
  new_only x k e = elim (new_at x) [
    | inl s ↦ (let same : k ≡ length names = cc in rw (same, s.0) (slice_get-push names name))
    | inr s ↦ slice_get-append names (name ∷ []) k x (n.only x k (sym s.1 ∙ e))
  ]

  -- one more name, which has no number yet, gets the next number
  pub IsNumbering-push : IsNumbering (names ++ name ∷ []) new
  IsNumbering-push = record { each = new_each; only = new_only }

-- The names can stand side by side: numbers tell them apart, and no folder of one has a number.
pub AreAcceptable-from_numbers : (names : List Name) (number : Name → Option ℕ) → IsNumbering names number → All IsAcceptable names
    → ((k : ℕ) (b : Name) → slice_get names k ≡ Some b → (f : Name) → IsFolderOf f b → number f ≡ None) → AreAcceptable names
AreAcceptable-from_numbers names number n each no_number = record {
  each = each;
  distinct = λ i j d below within e.
      let at_i = n.each i (get_or names i d) (slice_get-get_or names i d (omega arith)) in
      let at_j = n.each j (get_or names j d) (slice_get-get_or names j d within) in
      let same : number (get_or names i d) ≡ number (get_or names j d) = ap number e in
      let equal : i ≡ j = cc in
      absurd (omega arith);
  no_folder = λ a b in_a in_b is_folder.
      let a_at = slice_get-from_Contains names a in_a in
      let b_at = slice_get-from_Contains names b in_b in
      let some = n.each a_at.0 a a_at.1 in
      let none = no_number b_at.0 b b_at.1 a is_folder in
      absurd cc;
}
