-- Marks of what is reached, as they are extended step by step.
use Rattle.std.proofs.Common.{◌≡◌, ◌⊎◌, inl, inr, ℕ, zero, suc, ◌+◌, ◌<◌, Bool, true, false, List, [], ◌∷◌, ◌++◌, length, map, get_or, Option, Some, refl, sym, ap, ◌∙◌, subst, arith, length-append}
use Rattle.std.specs.List.{Contains}
use Rattle.std.proofs.Math.ListN.{set}
use Rattle.std.proofs.lemmas.List.{length-map, length-set}
use Rattle.handlebars_base.specs.Optional.{with_or}
use Rattle.std.proofs.lemmas.List.Elements.{Contains-append_left, Contains-append_right, Contains-append_cases, Contains-push, Contains-push_cases}
use Rattle.std.proofs.lemmas.List.Sums.{sum_by-set}
use Rattle.handlebars_includes.specs.Graph.{Graph, targets_at, Includes, Reaches, start, next, MarksReached}
use Rattle.handlebars_includes.specs.Reaching.{IsMarked, unset, Extends}

pub either : {A B C : Type 0} → (A → C) → (B → C) → A ⊎ B → C
either f g (inl a) = f a
either f g (inr b) = g b

pub nothing : {X : Type 0} (x : X) → Contains [] x → ⊥
nothing x p = omega (arith, p.1)

pub single : (i j : ℕ) → Contains (i ∷ []) j → i ≡ j
single i j h = either (λ none. absurd (nothing j none)) (λ is. is) (Contains-push_cases [] i j h)

-- ---- a mark that is set

pub set-grows : (ms : List Bool) (i j : ℕ) → IsMarked ms j → IsMarked (set ms i true) j
set-grows [] zero j h = h
set-grows [] (suc i) j h = h
set-grows (m ∷ ms) zero zero h = refl
set-grows (m ∷ ms) zero (suc j) h = h
set-grows (m ∷ ms) (suc i) zero h = h
set-grows (m ∷ ms) (suc i) (suc j) h = set-grows ms i j h

pub set-marks : (ms : List Bool) (i : ℕ) → i < length ms → IsMarked (set ms i true) i
set-marks [] i h = absurd (omega (arith, h))
set-marks (m ∷ ms) zero h = refl
set-marks (m ∷ ms) (suc i) h = set-marks ms i (omega (arith, h))

pub set-marked : (ms : List Bool) (i j : ℕ) → IsMarked (set ms i true) j → IsMarked ms j ⊎ (i ≡ j)
set-marked [] zero j h = inl h
set-marked [] (suc i) j h = inl h
set-marked (m ∷ ms) zero zero h = inr refl
set-marked (m ∷ ms) zero (suc j) h = inl h
set-marked (m ∷ ms) (suc i) zero h = inl h
set-marked (m ∷ ms) (suc i) (suc j) h = either (λ old. inl old) (λ is. inr (ap suc is)) (set-marked ms i j h)

pub read-marked : (ms : List Bool) (i : ℕ) (d : Bool) → i < length ms → get_or ms i d ≡ true → IsMarked ms i
read-marked [] i d h is = absurd (omega (arith, h))
read-marked (m ∷ ms) zero d h is = ap (λ b. Some b) is
read-marked (m ∷ ms) (suc i) d h is = read-marked ms i d (omega (arith, h)) is

-- ---- steps

pub extends-none : (marks : List Bool) (pending : List ℕ) → Extends [] marks pending marks pending
extends-none marks pending = record {
  each = refl;
  grows = λ j h. h;
  marked = λ j h. inl h;
  keeps = λ j h. h;
  added = λ j h. inl h;
  all = λ j h l. absurd (nothing j h);
  costs = omega arith;
}

pub extends-more : (ts : List ℕ) (t : ℕ) (m0 m1 m2 : List Bool) (p0 p1 p2 : List ℕ) → Extends ts m0 p0 m1 p1
    → Extends (t ∷ []) m1 p1 m2 p2 → Extends (ts ++ t ∷ []) m0 p0 m2 p2
extends-more ts t m0 m1 m2 p0 p1 p2 a b = record {
  each = b.each ∙ a.each;
  grows = λ j h. b.grows j (a.grows j h);
  marked = λ j h. either
      (λ old. either (λ x. inl x) (λ x. inr (b.keeps j x.0, Contains-append_left ts (t ∷ []) j x.1)) (a.marked j old))
      (λ x. inr (x.0, Contains-append_right ts (t ∷ []) j x.1)) (b.marked j h);
  keeps = λ j h. b.keeps j (a.keeps j h);
  added = λ j h. either
      (λ old. either (λ x. inl x) (λ x. inr (Contains-append_left ts (t ∷ []) j x)) (a.added j old))
      (λ x. inr (Contains-append_right ts (t ∷ []) j x)) (b.added j h);
  all = λ j h l. either (λ old. b.grows j (a.all j old (omega (arith, l, b.each)))) (λ x. b.all j x l)
      (Contains-append_cases ts (t ∷ []) j h);
  costs = omega (arith, a.costs, b.costs);
}

pub extends-seen : (i : ℕ) (marks : List Bool) (pending : List ℕ) → (i < length marks → IsMarked marks i)
    → Extends (i ∷ []) marks pending marks pending
extends-seen i marks pending seen = record {
  each = refl;
  grows = λ j h. h;
  marked = λ j h. inl h;
  keeps = λ j h. h;
  added = λ j h. inl h;
  all = λ j h l. subst (IsMarked marks) (single i j h) (seen (subst (λ k. k < length marks) (sym (single i j h)) l));
  costs = omega arith;
}

pub extends-open : (i : ℕ) (marks : List Bool) (pending : List ℕ) → i < length marks → get_or marks i false ≡ false
    → Extends (i ∷ []) marks pending (set marks i true) (pending ++ i ∷ [])
extends-open i marks pending within is = record {
  each = length-set marks i true;
  grows = λ j h. set-grows marks i j h;
  marked = λ j h. either (λ old. inl old)
      (λ same. inr (subst (Contains (pending ++ i ∷ [])) same (Contains-push pending i), subst (Contains (i ∷ [])) same (Contains-push [] i)))
      (set-marked marks i j h);
  keeps = λ j h. Contains-append_left pending (i ∷ []) j h;
  added = λ j h. Contains-append_cases pending (i ∷ []) j h;
  all = λ j h l. subst (IsMarked (set marks i true)) (single i j h) (set-marks marks i within);
  costs =
      let now = sum_by-set unset marks i true false within in
      let was = ap unset is in
      let longer : length (pending ++ i ∷ []) ≡ length pending + 1 = length-append pending (i ∷ []) in
      omega (arith, now, was, longer);
}

-- ---- what is reached

pub includes-within : (g : Graph) (i j : ℕ) → Includes g i j → i < length g
includes-within [] zero j h = absurd (nothing j h)
includes-within [] (suc i) j h = absurd (nothing j h)
includes-within (xs ∷ g) zero j h = omega arith
includes-within (xs ∷ g) (suc i) j h = let within = includes-within g i j h in omega (arith, within)

pub reaches-more : (g : Graph) (xs ys : List ℕ) → ((k : ℕ) → Contains xs k → Contains ys k) → (i : ℕ) → Reaches g xs i
    → Reaches g ys i
reaches-more g xs ys among i (start h) = start (among i h)
reaches-more g xs ys among j (next {i = i} r h) = next (reaches-more g xs ys among i r) h

closed-reached : (g : Graph) (starts : List ℕ) (marks : List Bool)
    → ((i : ℕ) → IsMarked marks i → (k : ℕ) → Includes g i k → k < length g → IsMarked marks k)
    → ((i : ℕ) → Contains starts i → i < length g → IsMarked marks i)
    → (j : ℕ) → Reaches g starts j → j < length g → IsMarked marks j
closed-reached g starts marks closed from j (start h) l = from j h l
closed-reached g starts marks closed from j (next {i = i} r h) l =
    closed i (closed-reached g starts marks closed from i r (includes-within g i j h)) j h l

-- What is marked is reached, and what it includes is marked, unless that is to be followed.
pub record Exploring (g : Graph) (starts : List ℕ) (marks : List Bool) (pending : List ℕ) : Type 0 where
  pub each : length marks ≡ length g
  pub sound : (j : ℕ) → IsMarked marks j → Reaches g starts j
  pub waits : (j : ℕ) → Contains pending j → Reaches g starts j
  pub closed : (j : ℕ) → IsMarked marks j → Contains pending j ⊎ ((k : ℕ) → Includes g j k → k < length g → IsMarked marks k)
  pub from : (j : ℕ) → Contains starts j → j < length g → IsMarked marks j

pub begins : (g : Graph) (starts : List ℕ) (i : ℕ) (marks marks' : List Bool) (pending : List ℕ) → MarksReached g starts marks
    → Extends (i ∷ []) marks [] marks' pending → Exploring g (starts ++ i ∷ []) marks' pending
begins g starts i marks marks' pending r e = record {
  each = e.each ∙ r.each;
  sound = λ j h. either
      (λ old. reaches-more g starts (starts ++ i ∷ []) (λ k x. Contains-append_left starts (i ∷ []) k x) j (r.marked j old))
      (λ x. start (Contains-append_right starts (i ∷ []) j x.1)) (e.marked j h);
  waits = λ j h. either (λ none. absurd (nothing j none)) (λ x. start (Contains-append_right starts (i ∷ []) j x)) (e.added j h);
  closed = λ j h. either (λ old. inr (λ k x l. e.grows k (r.reached k l (next (r.marked j old) x)))) (λ x. inl x.0) (e.marked j h);
  from = λ j h l. either (λ old. e.grows j (r.reached j l (start old))) (λ x. e.all j x (omega (arith, l, e.each, r.each)))
      (Contains-append_cases starts (i ∷ []) j h);
}

pub goes : (g : Graph) (starts : List ℕ) (at : ℕ) (marks marks' : List Bool) (pending rest pending' : List ℕ)
    → pending ≡ rest ++ at ∷ [] → Exploring g starts marks pending → Extends (targets_at g at) marks rest marks' pending'
    → Exploring g starts marks' pending'
goes g starts at marks marks' pending rest pending' is x e =
    let here = subst (λ ps. Contains ps at) (sym is) (Contains-push rest at) in
    let reached = x.waits at here in
    record {
      each = e.each ∙ x.each;
      sound = λ j h. either (λ old. x.sound j old) (λ y. next reached y.1) (e.marked j h);
      waits = λ j h. either
          (λ old. x.waits j (subst (λ ps. Contains ps j) (sym is) (Contains-append_left rest (at ∷ []) j old)))
          (λ y. next reached y) (e.added j h);
      closed = λ j h. either
          (λ old. either
          (λ p. either (λ y. inl (e.keeps j y))
          (λ same. inr (λ k y l. e.all k (subst (λ z. Includes g z k) (sym same) y) (omega (arith, l, e.each, x.each))))
          (Contains-push_cases rest at j (subst (λ ps. Contains ps j) is p)))
          (λ c. inr (λ k y l. e.grows k (c k y l))) (x.closed j old))
          (λ y. inl y.0) (e.marked j h);
      from = λ j h l. e.grows j (x.from j h l);
    }

pub ends : (g : Graph) (starts : List ℕ) (marks : List Bool) (pending : List ℕ) → pending ≡ [] → Exploring g starts marks pending
    → MarksReached g starts marks
ends g starts marks pending none x = record {
  each = x.each;
  marked = λ j h. x.sound j h;
  reached = λ j l r. closed-reached g starts marks
      (λ i h k y m. either (λ p. absurd (nothing i (subst (λ ps. Contains ps i) none p))) (λ c. c k y m) (x.closed i h)) x.from j r l;
}

pub reaches-none : (g : Graph) (j : ℕ) → Reaches g [] j → ⊥
reaches-none g j (start h) = nothing j h
reaches-none g j (next {i = i} r h) = reaches-none g i r

-- ---- no marks

none-marked : {X : Type 0} (xs : List X) (j : ℕ) → IsMarked (map (λ _. false) xs) j → ⊥
none-marked [] zero h = let is = ap (λ (o : Option Bool). with_or o unset 2) h in absurd (omega (arith, is))
none-marked [] (suc j) h = let is = ap (λ (o : Option Bool). with_or o unset 2) h in absurd (omega (arith, is))
none-marked (x ∷ xs) zero h = let is = ap (λ (o : Option Bool). with_or o unset 2) h in absurd (omega (arith, is))
none-marked (x ∷ xs) (suc j) h = none-marked xs j h

pub no-marks : {X : Type 0} (g : Graph) (xs : List X) (marks : List Bool) → length g ≡ length xs → marks ≡ map (λ _. false) xs
    → MarksReached g [] marks
no-marks g xs marks sized is = record {
  each = ap length is ∙ length-map xs (λ _. false) ∙ sym sized;
  marked = λ j h. absurd (none-marked xs j (subst (λ ms. IsMarked ms j) is h));
  reached = λ i l r. absurd (reaches-none g i r);
}

pub read-unmarked : (ms : List Bool) (i : ℕ) (b : Bool) → b ≡ get_or ms i b → b ≡ false → get_or ms i false ≡ false
read-unmarked ms i b is unset-here = sym (subst (λ (z : Bool). z ≡ get_or ms i z) unset-here is)
