-- What holds of all elements of a list, and of lists that are joined.
use Rattle.std.proofs.Common.{◌≡◌, ℕ, Bool, true, List, [], ◌∷◌, ◌++◌, Some, refl, sym, ap, ◌∙◌, arith, ◌⊎◌, inl, inr}
use Rattle.std.specs.List.{AllByRecursion, Contains, list_all, slice_get}
use Rattle.std.proofs.lemmas.List.Elements.{All-from_recursion, All-contains}
use Rattle.std.proofs.lemmas.List.Sums.{AllPass-from_list_all}
use Rattle.std.proofs.lemmas.Option.{slice_get_within, get_or_from_slice_get}

pub All-weaker : {X : Type 0} {P Q : X → Type 0} (xs : List X) → ((x : X) → P x → Q x) → AllByRecursion P xs
    → AllByRecursion Q xs
All-weaker [] f h = tt
All-weaker (x ∷ xs) f h = (f x h.0, All-weaker xs f h.1)

module _ {X : Type 0} (P : X → Type 0) where
  pub All-append : (xs ys : List X) → AllByRecursion P xs → AllByRecursion P ys → AllByRecursion P (xs ++ ys)
  All-append [] ys a b = b
  All-append (x ∷ xs) ys a b = (a.0, All-append xs ys a.1 b)

  pub All-first : (xs ys : List X) → AllByRecursion P (xs ++ ys) → AllByRecursion P xs
  All-first [] ys h = tt
  All-first (x ∷ xs) ys h = (h.0, All-first xs ys h.1)

  pub All-later : (xs ys : List X) → AllByRecursion P (xs ++ ys) → AllByRecursion P ys
  All-later [] ys h = h
  All-later (x ∷ xs) ys h = All-later xs ys h.1

  pub All-has : (xs : List X) (x : X) → AllByRecursion P xs → Contains xs x → P x
  All-has xs x h has = All-contains P xs x (All-from_recursion P xs h) has

module _ {X : Type 0} where
  pub list_all-has : (test : X → Bool) (xs : List X) (x : X) → list_all test xs ≡ true → Contains xs x → test x ≡ true
  list_all-has test xs x h has = All-contains (λ y. test y ≡ true) xs x (AllPass-from_list_all test xs h) has

  pub slice_get-has : (xs : List X) (i : ℕ) (x : X) → slice_get xs i ≡ Some x → Contains xs x
  slice_get-has xs i x is = (i, slice_get_within xs i x is, get_or_from_slice_get xs i x x is)

  pub Contains-prefix : (x : X) (xs : List X) → Contains (x ∷ xs) x
  Contains-prefix x xs = (0, omega arith, refl)

  -- If two joins give the same list, the first list of one is a prefix of the first list of the other, or the other way
  -- round.
  pub append-cases : (a b c d : List X) → a ++ b ≡ c ++ d
      → ((m : List X) × (a ≡ c ++ m) × (m ++ b ≡ d)) ⊎ ((m : List X) × (c ≡ a ++ m) × (b ≡ m ++ d))
  append-cases [] b c d e = inr (c, refl, e)
  append-cases (x ∷ a) b [] d e = inl (x ∷ a, refl, e)
  append-cases (x ∷ a) b (y ∷ c) d e =
      let same : x ≡ y = cc in
      let rest : a ++ b ≡ c ++ d = cc in
      elim (append-cases a b c d rest) [
        | inl (m, is, is_rest) ↦ inl (m, ap (λ (z : X). z ∷ a) same ∙ ap (λ (z : List X). y ∷ z) is, is_rest)
        | inr (m, is, is_rest) ↦ inr (m, ap (λ (z : X). z ∷ c) (sym same) ∙ ap (λ (z : List X). x ∷ z) is, is_rest)
      ]
