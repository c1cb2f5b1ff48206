-- Where steps end: at one end, with the same findings on the way; and what a loop over them preserves.
use Rattle.std.proofs.Common.{◌≡◌, ℕ, ◌+◌, List, [], ◌∷◌, length, refl, sym, ap, subst, ◌∙◌, arith}
use Rattle.std.proofs.lemmas.Option.{same_Some, none-some}
use Rattle.handlebars_expressions.specs.Runs.{ReadingStep, goes, ends, stuck}
use Rattle.handlebars_expressions.proofs.Stepping.{StepsTo, last, onward, Fails, goes-parts, Shortens, read_all-some, read_all-none}

-- ---- a step is one of three

pub goes-not_stuck : {E S A : Type 0} (n : ReadingStep E S) (x : E) (s : S) (t : List ℕ) → n ≡ goes x s t → n ≡ stuck → A
goes-not_stuck n x s t e h = let no : goes x s t ≡ stuck = sym e ∙ h in absurd cc

pub goes-not_ends : {E S A : Type 0} (n : ReadingStep E S) (x : E) (s : S) (t : List ℕ) → n ≡ goes x s t → n ≡ ends → A
goes-not_ends n x s t e h = let no : goes x s t ≡ ends = sym e ∙ h in absurd cc

ends-not_stuck : {E S A : Type 0} (n : ReadingStep E S) → n ≡ ends → n ≡ stuck → A
ends-not_stuck n e h = let no : ends ≡ stuck = sym e ∙ h in absurd cc

-- ---- one end

pub record SameEnd {E : Type 0} (xs ys : List E) (e d : List ℕ) : Type 0 where
  pub events : xs ≡ ys
  pub lefts : e ≡ d

pub one_end : {E S : Type 0} (step : S → List ℕ → ReadingStep E S) → Shortens step → (s : S) (t : List ℕ) (xs ys : List E) (e d : List ℕ) → StepsTo step s t xs e → StepsTo step s t ys d → SameEnd xs ys e d
one_end {E = E} step short s t xs ys e d h g =
    let a = read_all-some step short (length t + 1) s t xs e (omega arith) h in
    let b = read_all-some step short (length t + 1) s t ys d (omega arith) g in
    let same : (xs, e) ≡ (ys, d) = same_Some (xs, e) (ys, d) (sym a ∙ b) in
    record { events = ap (λ (z : List E × List ℕ). z.0) same; lefts = ap (λ (z : List E × List ℕ). z.1) same }

pub not_both : {E S A : Type 0} (step : S → List ℕ → ReadingStep E S) → Shortens step → (s : S) (t : List ℕ) (xs : List E) (e : List ℕ) → StepsTo step s t xs e → Fails step s t → A
not_both step short s t xs e h g =
    let a = read_all-some step short (length t + 1) s t xs e (omega arith) h in
    absurd (none-some (xs, e) (sym (read_all-none step (length t + 1) s t g) ∙ a))

-- ---- the first of the steps

pub runs-goes : {E S : Type 0} (step : S → List ℕ → ReadingStep E S) (s : S) (t : List ℕ) (xs : List E) (e : List ℕ) (x : E) (s' : S) (t' : List ℕ) → StepsTo step s t xs e → step s t ≡ goes x s' t' → (ys : List E) × (xs ≡ x ∷ ys) × StepsTo step s' t' ys e
runs-goes step s t _ _ x s' t' (last is) e = goes-not_ends (step s t) x s' t' e is
runs-goes {E = E} {S = S} step s t _ _ x s' t' (onward y r u {xs = ys} {e = d} is h) e =
    let same = goes-parts y x r s' u t' (sym is ∙ e) in
    (ys, ap (λ (z : E). z ∷ ys) same.events, subst (λ (z : S). StepsTo step z t' ys d) same.states (subst (λ (z : List ℕ). StepsTo step r z ys d) same.lefts h))

pub runs-ends : {E S : Type 0} (step : S → List ℕ → ReadingStep E S) (s : S) (t : List ℕ) (xs : List E) (e : List ℕ) → StepsTo step s t xs e → step s t ≡ ends → (xs ≡ []) × (e ≡ t)
runs-ends step s t _ _ (last is) e = (refl, refl)
runs-ends step s t _ _ (onward y r u {xs = ys} {e = d} is h) e = goes-not_ends (step s t) y r u is e

pub runs-stuck : {E S A : Type 0} (step : S → List ℕ → ReadingStep E S) (s : S) (t : List ℕ) (xs : List E) (e : List ℕ) → StepsTo step s t xs e → step s t ≡ stuck → A
runs-stuck step s t _ _ (last is) e = ends-not_stuck (step s t) is e
runs-stuck step s t _ _ (onward y r u {xs = ys} {e = d} is h) e = goes-not_stuck (step s t) y r u is e

-- ---- as a loop goes

-- What is found from the beginning is found from here on, too, and has the same result.
pub record Through {E S Y : Type 0} (step : S → List ℕ → ReadingStep E S) (s0 : S) (t0 : List ℕ) (f0 : List E → Y) (s : S) (t : List ℕ) (f : List E → Y) : Type 0 where
  pub passes : (ys : List E) (e : List ℕ) → StepsTo step s0 t0 ys e → (xs : List E) × (StepsTo step s t xs e) × (f0 ys ≡ f xs)

pub through-goes : {E S Y : Type 0} (step : S → List ℕ → ReadingStep E S) (s0 : S) (t0 : List ℕ) (f0 : List E → Y) (s : S) (t : List ℕ) (f : List E → Y) (x : E) (s' : S) (t' : List ℕ) (f' : List E → Y)
    → step s t ≡ goes x s' t' → ((xs : List E) → f (x ∷ xs) ≡ f' xs) → Through step s0 t0 f0 s t f → Through step s0 t0 f0 s' t' f'
through-goes step s0 t0 f0 s t f x s' t' f' is same h = record {
  passes = λ ys e g.
      let p = h.passes ys e g in
      let r = runs-goes step s t p.0 e x s' t' p.1 is in
      (r.0, r.2, p.2 ∙ ap f r.1 ∙ same r.0);
}
