-- How templates are reached, step by step.
use Rattle.std.proofs.Common.{◌≡◌, ◌⊎◌, inl, inr, ℕ, zero, suc, ◌<◌, List, [], ◌∷◌, ◌++◌, length, map, get_or, Option, None, Some, refl, sym, ap, ◌∙◌, subst, true}
use Rattle.std.specs.Prelude.{option_and_then, slice_get}
use Rattle.std.proofs.Math.ListN.{set}
use Rattle.std.proofs.lemmas.List.{length-map, get_or-map}
use Rattle.std.proofs.lemmas.List.Elements.{Contains-get_or}
use Rattle.std.proofs.lemmas.Option.{slice_get-get_or}
use Rattle.std.specs.List.{Contains}
use Rattle.handlebars_includes.specs.Graph as graph
use Rattle.handlebars_includes.specs.Graph.{Graph, inclusions_at}
use Rattle.handlebars_includes.specs.View.{inclusion_view}
use Rattle.handlebars_includes.specs.declared.includes.Inclusion.{Inclusion}
use Rattle.hb_check.specs.Chains.{IsInclusion, includer_at, includer_in, is_unreached}
use Rattle.hb_check.specs.Growing.{AreUnreached, Grows, IsFound, IsPage, IsVisit}
use Rattle.hb_check.specs.declared.chains.Includer.{Includer}
use Rattle.hb_check.specs.declared.chains.Way.{Way}
use Rattle.hb_check.specs.declared.chains.Way.TheVariants.{Unreached, Page, Included}

pub either : {A B C : Type 0} → (A → C) → (B → C) → A ⊎ B → C
either f g (inl a) = f a
either f g (inr b) = g b

-- ---- one after another

pub grows-none : (P : ℕ → Way → Type 0) (ws : List Way) → Grows P ws ws
grows-none P ws = λ i. inl refl

pub grows-weaker : (P Q : ℕ → Way → Type 0) (before after : List Way) → ((i : ℕ) (w : Way) → P i w → Q i w) → Grows P before after
    → Grows Q before after
grows-weaker P Q before after weaker grows = λ i.
    either (λ same. inl same) (λ new. inr (new.0, new.1, new.2, weaker i new.1 new.3)) (grows i)

pub grows-then : (P : ℕ → Way → Type 0) (a b c : List Way) → Grows P a b → Grows P b c → Grows P a c
grows-then P a b c first later = λ i.
    either (λ same. either (λ was. inl (same ∙ was)) (λ new. inr (new.0, new.1, same ∙ new.2, new.3)) (first i))
    (λ new. either (λ was. inr (sym was ∙ new.0, new.1, new.2, new.3))
    (λ old. inr (old.0, new.1, new.2, new.3)) (first i))
    (later i)

pub set-cases : {X : Type 0} (xs : List X) (i j : ℕ) (x : X)
    → (slice_get (set xs i x) j ≡ slice_get xs j) ⊎ ((j ≡ i) × (slice_get (set xs i x) j ≡ Some x))
set-cases [] zero j x = inl refl
set-cases [] (suc i) j x = inl refl
set-cases (y ∷ ys) zero zero x = inr (refl, refl)
set-cases (y ∷ ys) zero (suc j) x = inl refl
set-cases (y ∷ ys) (suc i) zero x = inl refl
set-cases (y ∷ ys) (suc i) (suc j) x = either (λ same. inl same) (λ new. inr (ap suc new.0, new.1)) (set-cases ys i j x)

unreached-is : (w : Way) → is_unreached w ≡ true → w ≡ Unreached
unreached-is Unreached is = refl
unreached-is Page is = let never : ⊥ = cc in elim never [ ]
unreached-is (Included x) is = let never : ⊥ = cc in elim never [ ]

pub grows-visit : (ws : List Way) (i : ℕ) (w d : Way) → i < length ws → is_unreached (get_or ws i d) ≡ true
    → Grows (IsVisit i w) ws (set ws i w)
grows-visit ws i w d within is = λ j.
    either (λ same. inl same)
    (λ new. inr (
      ap (slice_get ws) new.0 ∙ slice_get-get_or ws i d within ∙ ap (λ v. Some v) (unreached-is (get_or ws i d) is),
      w,
      new.1,
      (new.0, refl),
    ))
    (set-cases ws i j w)

-- ---- all

pub ways-from : (g : Graph) (a b c : List Way) → AreUnreached a → Grows IsPage a b → Grows (IsFound g) b c
    → (i : ℕ) (x : Includer) → includer_at c i ≡ Some x → IsInclusion g i x
ways-from g a b c none pages found = λ i x is.
    either (λ same. either (λ was. let never : ⊥ = old i x (ap (option_and_then includer_in) (sym (same ∙ was)) ∙ is) in elim never [ ])
    (λ new. let never : ⊥ = page x new.1 new.3 (ap (option_and_then includer_in) (sym (same ∙ new.2)) ∙ is) in elim never [ ])
    (pages i))
    (λ new. way i x new.1 new.3 (ap (option_and_then includer_in) (sym new.2) ∙ is))
    (found i)
  where
    page : (x : Includer) (w : Way) → w ≡ Page → option_and_then includer_in (Some w) ≡ Some x → ⊥
    page x Unreached are is = cc
    page x Page are is = cc
    page x (Included y) are is = cc

    unreached : (x : Includer) (w : Way) → w ≡ Unreached → includer_in w ≡ Some x → ⊥
    unreached x Unreached are is = cc
    unreached x Page are is = cc
    unreached x (Included y) are is = cc

    by : (i : ℕ) (x : Includer) (o : Option Way) → slice_get a i ≡ o → option_and_then includer_in o ≡ Some x → ⊥
    by i x None at is = cc
    by i x (Some w) at is = unreached x w (none i w at) is

    old : (i : ℕ) (x : Includer) → option_and_then includer_in (slice_get a i) ≡ Some x → ⊥
    old i x is = by i x (slice_get a i) refl is

    same-way : (x y : Includer) → Some y ≡ Some x → y ≡ x
    same-way x y is = cc

    way : (i : ℕ) (x : Includer) (w : Way) → IsFound g i w → option_and_then includer_in (Some w) ≡ Some x → IsInclusion g i x
    way i x w (y, are, inclusion) is =
        subst (λ (z : Includer). IsInclusion g i z) (same-way x y (sym (ap includer_in are) ∙ is)) inclusion

-- ---- what a template includes

contains-view : {X Y : Type 0} (v : X → Y) (xs : List X) (k : ℕ) (d : X) → k < length xs → Contains (map v xs) (v (get_or xs k d))
contains-view v xs k d within =
    subst (Contains (map v xs)) (get_or-map v xs k d (v d) within)
    (Contains-get_or (map v xs) k (v d) (subst (λ (n : ℕ). k < n) (sym (length-map xs v)) within))

pub follow-next : (g : Graph) (template : ℕ) (xs : List Inclusion) (k : ℕ) (d : Inclusion) (a b c : List Way)
    → map inclusion_view xs ≡ inclusions_at g template → k < length xs → Grows (IsFound g) a b
    → Grows (IsVisit (get_or xs k d).target (Included (record { template = template; position = (get_or xs k d).position }))) b c
    → Grows (IsFound g) a c
follow-next g template xs k d a b c are within first visits =
    grows-then (IsFound g) a b c first
    (grows-weaker (IsVisit x.target (Included way)) (IsFound g) b c (λ j w is. (
      way,
      is.1,
      subst (λ (i : ℕ). IsInclusion g i way) (sym is.0)
          (x.always, subst (λ (ys : List graph.Inclusion). Contains ys (inclusion_view x)) are (contains-view inclusion_view xs k d within)),
    ))
    visits)
  where
    x : Inclusion
    x = get_or xs k d

    way : Includer
    way = record { template = template; position = x.position }

-- ---- none is reached

none-at : (i : ℕ) (w : Way) → slice_get [] i ≡ Some w → w ≡ Unreached
none-at zero w is = let never : ⊥ = cc in elim never [ ]
none-at (suc i) w is = let never : ⊥ = cc in elim never [ ]

pub unreached-none : AreUnreached []
unreached-none = λ i w is. none-at i w is

pub unreached-push : (ws : List Way) → AreUnreached ws → AreUnreached (ws ++ Unreached ∷ [])
unreached-push [] all zero w is = cc
unreached-push [] all (suc i) w is = none-at i w is
unreached-push (v ∷ ws) all zero w is = all zero w is
unreached-push (v ∷ ws) all (suc i) w is = unreached-push ws (λ j. all (suc j)) i w is
