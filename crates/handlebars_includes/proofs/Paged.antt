-- Which templates are pages.
use Rattle.std.proofs.Common.{◌≡◌, ◌≢◌, ◌⊎◌, inl, inr, ℕ, zero, suc, ◌+◌, ◌<◌, ◌≤◌, Bool, true, false, List, [], ◌∷◌, ◌++◌, length, get_or, refl, sym, ap, ◌∙◌, subst, arith}
use Rattle.std.specs.List.{Contains}
use Rattle.std.proofs.Math.ListN.{set}
use Rattle.std.proofs.lemmas.List.{length-set}
use Rattle.std.proofs.lemmas.Option.{get_or_from_slice_get}
use Rattle.std.proofs.lemmas.List.Elements.{Contains-append_left, Contains-append_right, Contains-append_cases, Contains-push}
use Rattle.handlebars_includes.specs.Graph.{Graph, targets_at, Includes, Reaches, start, MarksReached, MarksIncluded, AddsPages, done, reached, unreached}
use Rattle.handlebars_includes.specs.Reaching.{IsMarked, unset, MarksOthers, AddsPage}
use Rattle.handlebars_includes.proofs.Reached.{either, nothing, single, set-grows, set-marks, set-marked, reaches-more, reaches-none}

-- ---- what another template includes

pub others-none : (i : ℕ) (marks : List Bool) → MarksOthers i [] marks marks
others-none i marks = record {
  each = refl;
  grows = λ j h. h;
  marked = λ j h. inl h;
  all = λ j h other l. absurd (nothing j h);
}

pub others-more : (i : ℕ) (ts : List ℕ) (t : ℕ) (m0 m1 m2 : List Bool) → MarksOthers i ts m0 m1 → MarksOthers i (t ∷ []) m1 m2
    → MarksOthers i (ts ++ t ∷ []) m0 m2
others-more i ts t m0 m1 m2 a b = record {
  each = b.each ∙ a.each;
  grows = λ j h. b.grows j (a.grows j h);
  marked = λ j h. either
      (λ old. either (λ x. inl x) (λ x. inr (x.0, Contains-append_left ts (t ∷ []) j x.1)) (a.marked j old))
      (λ x. inr (x.0, Contains-append_right ts (t ∷ []) j x.1)) (b.marked j h);
  all = λ j h other l. either (λ old. b.grows j (a.all j old other (omega (arith, l, b.each)))) (λ x. b.all j x other l)
      (Contains-append_cases ts (t ∷ []) j h);
}

pub others-itself : (i : ℕ) (t : ℕ) (marks : List Bool) → i ≡ t → MarksOthers i (t ∷ []) marks marks
others-itself i t marks same = record {
  each = refl;
  grows = λ j h. h;
  marked = λ j h. inl h;
  all = λ j h other l. absurd (other (same ∙ single t j h));
}

pub others-past : (i : ℕ) (t : ℕ) (marks : List Bool) → length marks ≤ t → MarksOthers i (t ∷ []) marks marks
others-past i t marks past = record {
  each = refl;
  grows = λ j h. h;
  marked = λ j h. inl h;
  all = λ j h other l. let is = single t j h in absurd (omega (arith, past, l, is));
}

pub others-set : (i : ℕ) (t : ℕ) (marks : List Bool) → i ≢ t → t < length marks → MarksOthers i (t ∷ []) marks (set marks t true)
others-set i t marks other within = record {
  each = length-set marks t true;
  grows = λ j h. set-grows marks t j h;
  marked = λ j h. either (λ old. inl old)
      (λ same. inr (subst (λ (k : ℕ). i ≢ k) same other, subst (Contains (t ∷ [])) same (Contains-push [] t))) (set-marked marks t j h);
  all = λ j h o l. subst (IsMarked (set marks t true)) (single t j h) (set-marks marks t within);
}

-- What is marked is included by another template, and all that those before an index include is marked.
pub record Including (g : Graph) (index : ℕ) (marks : List Bool) : Type 0 where
  pub each : length marks ≡ length g
  pub marked : (j : ℕ) → IsMarked marks j → (i : ℕ) × (i ≢ j) × Includes g i j
  pub included : (i : ℕ) (j : ℕ) → i < index → j < length g → i ≢ j → Includes g i j → IsMarked marks j

pub including-none : (g : Graph) (marks : List Bool) → MarksReached g [] marks → Including g 0 marks
including-none g marks r = record {
  each = r.each;
  marked = λ j h. absurd (reaches-none g j (r.marked j h));
  included = λ i j h l other x. absurd (omega (arith, h));
}

pub decide : (i j : ℕ) → i ≤ j → (i ≡ j) ⊎ (i < j)
decide zero zero h = inl refl
decide zero (suc j) h = inr (omega arith)
decide (suc i) zero h = absurd (omega (arith, h))
decide (suc i) (suc j) h = either (λ e. inl (ap suc e)) (λ l. inr (omega (arith, l))) (decide i j (omega (arith, h)))

pub including-more : (g : Graph) (index : ℕ) (marks marks' : List Bool) → Including g index marks
    → MarksOthers index (targets_at g index) marks marks' → Including g (index + 1) marks'
including-more g index marks marks' x m = record {
  each = m.each ∙ x.each;
  marked = λ j h. either (λ old. x.marked j old) (λ new. (index, new.0, new.1)) (m.marked j h);
  included = λ i j h l other y. either
      (λ same. m.all j (subst (λ k. Includes g k j) same y) (subst (λ (k : ℕ). k ≢ j) same other) (omega (arith, l, m.each, x.each)))
      (λ before. m.grows j (x.included i j before l other y)) (decide i index (omega (arith, h)));
}

within : (g : Graph) (i j : ℕ) → Includes g i j → i < length g
within [] zero j h = absurd (nothing j h)
within [] (suc i) j h = absurd (nothing j h)
within (xs ∷ g) zero j h = omega arith
within (xs ∷ g) (suc i) j h = let l = within g i j h in omega (arith, l)

pub including-all : (g : Graph) (index : ℕ) (marks : List Bool) → length g ≤ index → Including g index marks → MarksIncluded g marks
including-all g index marks end x = record {
  each = x.each;
  marked = x.marked;
  included = λ i j l other y. let h = within g i j y in x.included i j (omega (arith, h, end)) l other y;
}

-- ---- pages

pub adds-keeps : (g : Graph) (i : ℕ) (pages all : List ℕ) → AddsPages g i pages all → (k : ℕ) → Contains pages k → Contains all k
adds-keeps g i pages all (done end) k h = h
adds-keeps g i pages all (reached l r rest) k h = adds-keeps g (i + 1) pages all rest k h
adds-keeps g i pages all (unreached l r rest) k h =
    adds-keeps g (i + 1) (pages ++ i ∷ []) all rest k (Contains-append_left pages (i ∷ []) k h)

-- Each template from the index on is reached in the end.
pub adds-reach : (g : Graph) (i : ℕ) (pages all : List ℕ) → AddsPages g i pages all → (j : ℕ) → i ≤ j → j < length g
    → Reaches g all j
adds-reach g i pages all (done end) j from h = absurd (omega (arith, from, h, end))
adds-reach g i pages all (reached l r rest) j from h = either
    (λ same. subst (Reaches g all) same (reaches-more g pages all (adds-keeps g (i + 1) pages all rest) i r))
    (λ more. adds-reach g (i + 1) pages all rest j (omega (arith, more)) h) (decide i j from)
adds-reach g i pages all (unreached l r rest) j from h = either
    (λ same. subst (Reaches g all) same
    (start (adds-keeps g (i + 1) (pages ++ i ∷ []) all rest i (Contains-push pages i))))
    (λ more. adds-reach g (i + 1) (pages ++ i ∷ []) all rest j (omega (arith, more)) h) (decide i j from)

-- an index that is passed, where what is reached is marked
pub page-skipped : (g : Graph) (i : ℕ) (pages : List ℕ) (marks : List Bool) → MarksReached g pages marks → i < length g
    → (i < length marks → IsMarked marks i) → AddsPage g i pages pages
page-skipped g i pages marks r l m all rest = reached l (r.marked i (m (omega (arith, l, r.each)))) rest

pub page-taken : (g : Graph) (i : ℕ) (pages : List ℕ) (marks : List Bool) → MarksReached g pages marks → i < length g
    → get_or marks i false ≡ false → AddsPage g i pages (pages ++ i ∷ [])
page-taken g i pages marks r l unmarked all rest =
    unreached l (λ x. let is = ap unset (sym (get_or_from_slice_get marks i true false (r.reached i l x)) ∙ unmarked) in absurd (omega (arith, is)))
    rest
