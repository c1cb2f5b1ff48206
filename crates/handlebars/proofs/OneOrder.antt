-- There is one stable order of a list, as far as its elements are seen.
use Rattle.std.proofs.Common.{◌≡◌, ◌<◌, ℕ, suc, arith, add-one, get_or, length, Bool, true, false, not, ◌&&◌, cond, List, [], ◌∷◌, map, refl, sym, ap, ◌∙◌, subst, inl, inr}
use Rattle.std.proofs.lemmas.Bool.{cases_Bool, false≢true}
use Rattle.std.proofs.lemmas.List.Sorted.{sorted_far}
use Rattle.std.specs.Cmp.{IsStrictWeakOrder}
use Rattle.std.specs.List.{filter}
use Rattle.std.specs.List.Sorted.{IsSortedBy, ties}

both-or-none : (a b : Bool) → (a ≡ false → b ≡ false) → (b ≡ false → a ≡ false) → a ≡ b
both-or-none true true to from = refl
both-or-none true false to from = sym (sym (from refl))
both-or-none false true to from = sym (to refl)
both-or-none false false to from = refl

tied : {a b : Bool} → a ≡ false → b ≡ false → not a && not b ≡ true
tied e f = rw e (rw f refl)

first-none : (a b : Bool) → not a && not b ≡ true → a ≡ false
first-none true b e = cc
first-none false b e = refl

nothing≢something : {V : Type 0} {v : V} {vs : List V} → [] ≡ v ∷ vs → ⊥
nothing≢something e = cc

-- ---- what is seen of what is filtered

module _ {X V : Type 0} (seen : X → V) where
  map-cond : (b c : Bool) (x : X) (xs : List X) (vs : List V) → b ≡ c → map seen xs ≡ vs
      → map seen (cond b (x ∷ xs) xs) ≡ cond c (seen x ∷ vs) vs
  map-cond true true x xs vs same rest = ap (λ z. seen x ∷ z) rest
  map-cond true false x xs vs same rest = cc
  map-cond false true x xs vs same rest = cc
  map-cond false false x xs vs same rest = rest

  pub map-filter : (p : X → Bool) (test : V → Bool) → ((x : X) → p x ≡ test (seen x)) → (xs : List X)
      → map seen (filter p xs) ≡ filter test (map seen xs)
  map-filter p test is [] = refl
  map-filter p test is (x ∷ xs) =
      map-cond (p x) (test (seen x)) x (filter p xs) (filter test (map seen xs)) (is x) (map-filter p test is xs)

  -- what is found, if anything is seen
  Found : (X → Bool) → List X → Type 0
  Found p xs = (j : ℕ) × (j < length xs) × ((d : X) → p (get_or xs j d) ≡ true)

  found-if : (p : X → Bool) (x : X) (xs : List X) (b : Bool) (v : V) (vs : List V) → p x ≡ b
      → (map seen (filter p xs) ≡ v ∷ vs → Found p xs) → map seen (cond b (x ∷ filter p xs) (filter p xs)) ≡ v ∷ vs
      → Found p (x ∷ xs)
  unfolding Found
  found-if p x xs true v vs is more e = (0, omega arith, λ d. is)
  found-if p x xs false v vs is more e = let r = more e in
      let within : r.0 < length xs = r.1 in (suc r.0, omega arith, r.2)

  found : (p : X → Bool) (xs : List X) (v : V) (vs : List V) → map seen (filter p xs) ≡ v ∷ vs → Found p xs
  found p [] v vs e = cc
  found p (x ∷ xs) v vs e = found-if p x xs (p x) v vs refl (found p xs v vs) e

module _ {X : Type 0} (lt : X → X → Bool) (order : IsStrictWeakOrder lt) where
  first-least : (x : X) (xs : List X) → IsSortedBy lt (x ∷ xs) → (j : ℕ) (d : X) → j < length (x ∷ xs)
      → lt (get_or (x ∷ xs) j d) x ≡ false
  first-least x xs sorted j d within = sorted_far lt order (x ∷ xs) sorted 0 j d (omega arith) within

  rest-sorted : (x : X) (xs : List X) → IsSortedBy lt (x ∷ xs) → IsSortedBy lt xs
  rest-sorted x xs sorted = λ k d low within.
      subst (λ z. lt (get_or xs z d) (get_or xs k d) ≡ false) (sym (add-one k))
      (sorted_far lt order (x ∷ xs) sorted (suc k) (suc (suc k)) d (omega arith) (omega arith))

  ties-not-below : {x y : X} → ties lt x y ≡ true → lt x y ≡ false
  ties-not-below {x = x} {y = y} e = first-none (lt x y) (lt y x) e

  ties-itself : (x : X) → ties lt x x ≡ true
  ties-itself x = elim (cases_Bool (lt x x)) [
    | inl is ↦ absurd (false≢true (sym (order.one_way x x is) ∙ is))
    | inr other ↦ tied other other
  ]

  -- if one element ties with the first of two that tie, it ties with the second
  ties-alike : (e x y : X) → lt x y ≡ false → lt y x ≡ false → ties lt e x ≡ ties lt e y
  ties-alike e x y below above =
      ap (λ b. not b && not (lt x e)) (both-or-none (lt e x) (lt e y) (λ s. order.chain e x y s below) (λ s. order.chain e y x s above))
      ∙ ap (λ b. not (lt e y) && not b)
      (both-or-none (lt x e) (lt y e) (λ s. order.chain y x e above s) (λ s. order.chain x y e below s))

  module _ {V : Type 0} (seen : X → V) where
    none-some : (x : X) (xs : List X) → map seen (filter (ties lt x) []) ≡ map seen (filter (ties lt x) (x ∷ xs)) → ⊥
    none-some x xs e =
        let here : map seen (filter (ties lt x) (x ∷ xs)) ≡ seen x ∷ map seen (filter (ties lt x) xs) = rw (ties-itself x) refl in
        nothing≢something (e ∙ here)

    abbrev Agree : List X → List X → Type 0
    Agree xs ys = (e : X) → map seen (filter (ties lt e) xs) ≡ map seen (filter (ties lt e) ys)

    -- the first of one order isn't above that of the other
    first-below : (x y : X) (xs ys : List X) → IsSortedBy lt (y ∷ ys) → Agree (x ∷ xs) (y ∷ ys) → lt x y ≡ false
    unfolding Found
    first-below x y xs ys sorted agree =
        let here : map seen (filter (ties lt x) (x ∷ xs)) ≡ seen x ∷ map seen (filter (ties lt x) xs) = rw (ties-itself x) refl in
        let r = found seen (ties lt x) (y ∷ ys) _ _ (sym (agree x) ∙ here) in
        order.chain x (get_or (y ∷ ys) r.0 y) y (ties-not-below (r.2 y)) (first-least y ys sorted r.0 y r.1)

    heads-seen : (b : Bool) (x y : X) (xs ys : List X) → b ≡ true
        → map seen (cond b (x ∷ xs) xs) ≡ map seen (cond b (y ∷ ys) ys) → seen x ≡ seen y
    heads-seen true x y xs ys is e = cc
    heads-seen false x y xs ys is e = cc

    rests-seen : (b : Bool) (x y : X) (xs ys : List X) → map seen (cond b (x ∷ xs) xs) ≡ map seen (cond b (y ∷ ys) ys)
        → map seen xs ≡ map seen ys
    rests-seen true x y xs ys e = cc
    rests-seen false x y xs ys e = e

    pub one-order : (xs ys : List X) → IsSortedBy lt xs → IsSortedBy lt ys → Agree xs ys → map seen xs ≡ map seen ys
    one-order [] [] up rising agree = refl
    one-order [] (y ∷ ys) up rising agree = absurd (none-some y ys (agree y))
    one-order (x ∷ xs) [] up rising agree = absurd (none-some x xs (sym (agree x)))
    one-order (x ∷ xs) (y ∷ ys) up rising agree =
        let below = first-below x y xs ys rising agree in
        let above = first-below y x ys xs up (λ e. sym (agree e)) in
        let alike : (e : X) → map seen (cond (ties lt e x) (x ∷ filter (ties lt e) xs) (filter (ties lt e) xs))
        ≡ map seen (cond (ties lt e x) (y ∷ filter (ties lt e) ys) (filter (ties lt e) ys))
        = λ e. agree e ∙ ap (λ b. map seen (cond b (y ∷ filter (ties lt e) ys) (filter (ties lt e) ys))) (sym (ties-alike e x y below above)) in
        ap (λ v. v ∷ map seen xs) (heads-seen (ties lt x x) x y _ _ (ties-itself x) (alike x))
        ∙ ap (λ vs. seen y ∷ vs) (one-order xs ys (rest-sorted x xs up) (rest-sorted y ys rising)
        (λ e. rests-seen (ties lt e x) x y _ _ (alike e)))
