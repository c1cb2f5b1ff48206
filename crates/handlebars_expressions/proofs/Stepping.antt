-- Steps lead to one end, or to where nothing fits, and never to both.
use Rattle.std.proofs.Common.{◌≡◌, ℕ, zero, suc, ◌<◌, List, [], ◌∷◌, length, Option, Some, None, refl, ap, subst, ◌∙◌, arith}
use Rattle.std.proofs.lemmas.Option.{same_Some}
use Rattle.handlebars_expressions.specs.Runs.{ReadingStep, goes, ends, stuck, found, on_step, read_all}

-- from here the steps find these, and this is left
pub data StepsTo {E S : Type 0} (step : S → List ℕ → ReadingStep E S) : S → List ℕ → List E → List ℕ → Type 0 where
  last : {s : S} {t : List ℕ} → step s t ≡ ends → StepsTo step s t [] t
  onward : {s : S} {t : List ℕ} (x : E) (s' : S) (t' : List ℕ) {xs : List E} {e : List ℕ} → step s t ≡ goes x s' t' → StepsTo step s' t' xs e → StepsTo step s t (x ∷ xs) e

-- from here the steps come to where nothing fits
pub data Fails {E S : Type 0} (step : S → List ℕ → ReadingStep E S) : S → List ℕ → Type 0 where
  none : {s : S} {t : List ℕ} → step s t ≡ stuck → Fails step s t
  later : {s : S} {t : List ℕ} (x : E) (s' : S) (t' : List ℕ) → step s t ≡ goes x s' t' → Fails step s' t' → Fails step s t

-- ---- the parts of a step

pub record SameStep {E S : Type 0} (x y : E) (s r : S) (t u : List ℕ) : Type 0 where
  pub events : x ≡ y
  pub states : s ≡ r
  pub lefts : t ≡ u

abbrev event_in : {E S : Type 0} → E → ReadingStep E S → E
event_in d n = on_step n (λ x s t. x) d d

abbrev state_in : {E S : Type 0} → S → ReadingStep E S → S
state_in d n = on_step n (λ x s t. s) d d

abbrev left_in : {E S : Type 0} → List ℕ → ReadingStep E S → List ℕ
left_in d n = on_step n (λ x s t. t) d d

pub goes-parts : {E S : Type 0} (x y : E) (s r : S) (t u : List ℕ) → goes x s t ≡ goes y r u → SameStep x y s r t u
goes-parts x y s r t u e = record { events = ap (event_in x) e; states = ap (state_in s) e; lefts = ap (left_in t) e }

-- ---- the function finds what the relation says

found-some : {E : Type 0} (x : E) (o : Option (List E × List ℕ)) (r : List E × List ℕ) → found x o ≡ Some r →
    (q : List E × List ℕ) × (o ≡ Some q) × ((x ∷ q.0, q.1) ≡ r)
found-some x None r e = absurd cc
found-some x (Some q) r e = (q, refl, same_Some (x ∷ q.0, q.1) r e)

pub read_all-runs : {E S : Type 0} (step : S → List ℕ → ReadingStep E S) (k : ℕ) (s : S) (t : List ℕ) (r : List E × List ℕ) → read_all step k s t ≡ Some r → StepsTo step s t r.0 r.1
read_all-runs step zero s t r e = absurd cc
read_all-runs {E = E} {S = S} step (suc k) s t r e = on (step s t) refl e (read_all-runs step k)
  where
    on : (n : ReadingStep E S) → step s t ≡ n → on_step n (λ x s' t'. found x (read_all step k s' t')) (Some ([], t)) None ≡ Some r → ((s : S) (t : List ℕ) (r : List E × List ℕ) → read_all step k s t ≡ Some r → StepsTo step s t r.0 r.1) → StepsTo step s t r.0 r.1
    on (goes x s' t') is e again =
        let q = found-some x (read_all step k s' t') r e in
        subst (λ (z : List E × List ℕ). StepsTo step s t z.0 z.1) q.2 (onward x s' t' is (again s' t' q.0 q.1))
    on ends is e again = subst (λ (z : List E × List ℕ). StepsTo step s t z.0 z.1) (same_Some ([], t) r e) (last is)
    on stuck is e again = absurd cc

-- a step takes a byte at least
abbrev pub Shortens : {E S : Type 0} → (S → List ℕ → ReadingStep E S) → Type 0
Shortens {E} {S} step = (s : S) (t : List ℕ) (x : E) (s' : S) (t' : List ℕ) → step s t ≡ goes x s' t' → length t' < length t

pub read_all-some : {E S : Type 0} (step : S → List ℕ → ReadingStep E S) → Shortens step → (k : ℕ) (s : S) (t : List ℕ) (xs : List E) (e : List ℕ) → length t < k → StepsTo step s t xs e → read_all step k s t ≡ Some (xs, e)
read_all-some step short zero s t xs e lt h = absurd (omega arith)
read_all-some step short (suc k) s t _ _ lt (last is) = rw is refl
read_all-some step short (suc k) s t _ _ lt (onward x s' t' {xs} {e} is h) =
    let less = short s t x s' t' is in
    rw (is, read_all-some step short k s' t' xs e (omega arith) h) refl

pub read_all-none : {E S : Type 0} (step : S → List ℕ → ReadingStep E S) (k : ℕ) (s : S) (t : List ℕ) → Fails step s t → read_all step k s t ≡ None
read_all-none step zero s t h = refl
read_all-none step (suc k) s t (none is) = rw is refl
read_all-none step (suc k) s t (later x s' t' is h) = rw (is, read_all-none step k s' t' h) refl

-- ---- as a loop goes

-- What is found from here on has the same result as what is found from the beginning. If the steps get stuck from here, they
-- get stuck from the beginning.
pub record Still {E S Y : Type 0} (step : S → List ℕ → ReadingStep E S) (s0 : S) (t0 : List ℕ) (f0 : List E → Y) (s : S) (t : List ℕ) (f : List E → Y) : Type 0 where
  pub ran : (xs : List E) (e : List ℕ) → StepsTo step s t xs e → (ys : List E) × (StepsTo step s0 t0 ys e) × (f0 ys ≡ f xs)
  pub failed : Fails step s t → Fails step s0 t0

pub still-goes : {E S Y : Type 0} (step : S → List ℕ → ReadingStep E S) (s0 : S) (t0 : List ℕ) (f0 : List E → Y) (s : S) (t : List ℕ) (f : List E → Y) (x : E) (s' : S) (t' : List ℕ) (f' : List E → Y)
    → step s t ≡ goes x s' t' → ((xs : List E) → f (x ∷ xs) ≡ f' xs) → Still step s0 t0 f0 s t f → Still step s0 t0 f0 s' t' f'
still-goes step s0 t0 f0 s t f x s' t' f' is same h = record {
  ran = λ xs e g. let back = h.ran (x ∷ xs) e (onward x s' t' is g) in (back.0, back.1, back.2 ∙ same xs);
  failed = λ g. h.failed (later x s' t' is g);
}
