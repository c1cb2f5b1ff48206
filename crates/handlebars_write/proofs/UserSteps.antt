-- Steps of user-defined helpers, from a number on.
use Rattle.std.proofs.Common.{◌≡◌, ℕ, ◌+◌, List, [], ◌∷◌, length, Ok, Err, arith, refl, sym, subst}
use Rattle.std.specs.declared.io.Error.{Error}
use Rattle.handlebars_base.specs.declared.error.render_error.RenderError.{RenderError}
use Rattle.handlebars_helpers.specs.CallView.{HelperView}
use Rattle.handlebars_helpers.specs.UserHelper.{Step}
use Rattle.handlebars_semantics.specs.Execute.{take_step, take_steps}
use Rattle.handlebars_semantics.specs.Occurrences.{Occurrence}
use Rattle.handlebars_semantics.specs.State.{Setting}
use Rattle.handlebars_semantics.specs.Steps.{Steps, ◌>>◌}
use Rattle.handlebars_write.specs.View.{Moment, Answered, RefinesSteps, RefinesProg, goes_on, is_over}

pub nothing_left : {X : Type 0} (xs : List X) → length xs ≡ 0 → xs ≡ []
nothing_left [] is = refl
nothing_left (x ∷ xs) is = absurd (omega arith)

module _ (p : Setting) (may : Error → Type 0) where
  -- What is executed by the steps that are left from now on is executed by all of them from the first moment on.
  abbrev pub StepsLeft : Occurrence → ℕ → HelperView → List Step → List Step → Moment → Moment → Type 0
  StepsLeft occurrence i h all rest first now = (next : Unit {0} → Steps) (r : Answered) (last : Moment)
      → RefinesSteps p (take_steps occurrence h i rest next) may now r last
      → RefinesSteps p (take_steps occurrence h 0 all next) may first r last

  pub steps-go : (occurrence : Occurrence) (i : ℕ) (h : HelperView) (all : List Step) {rest more : List Step} {step : Step}
      {first now after : Moment} {u : Unit {0}} → rest ≡ step ∷ more → StepsLeft occurrence i h all rest first now
      → RefinesProg p (take_step occurrence h i step) may now (Ok u) after → StepsLeft occurrence (i + 1) h all more first after
  unfolding ◌>>◌
  steps-go occurrence i h all {more = more} {now = now} is left (goes_on taken) = λ next r last c. left next r last
      (subst (λ (ts : List Step). RefinesSteps p (take_steps occurrence h i ts next) may now r last) (sym is)
      (taken (λ u. take_steps occurrence h (i + 1) more next) r last c))

  pub steps-over : (occurrence : Occurrence) (i : ℕ) (h : HelperView) (all : List Step) {rest more : List Step} {step : Step}
      {first now after : Moment} {e : RenderError} → rest ≡ step ∷ more → StepsLeft occurrence i h all rest first now
      → RefinesProg p (take_step occurrence h i step) may now (Err e) after
      → RefinesProg p (take_steps occurrence h 0 all) may first (Err e) after
  unfolding ◌>>◌
  steps-over occurrence i h all {more = more} {now = now} {after = after} {e = e} is left (is_over taken) =
      is_over (λ next. left next (Err e) after
      (subst (λ (ts : List Step). RefinesSteps p (take_steps occurrence h i ts next) may now (Err e) after) (sym is)
      (taken (λ u. take_steps occurrence h (i + 1) more next))))

  pub steps-end : (occurrence : Occurrence) (i : ℕ) (h : HelperView) (all : List Step) {rest : List Step} {first now : Moment}
      {u : Unit {0}} → rest ≡ [] → StepsLeft occurrence i h all rest first now
      → RefinesProg p (take_steps occurrence h 0 all) may first (Ok u) now
  steps-end occurrence i h all {now = now} is left = goes_on (λ next r last c. left next r last
      (subst (λ (ts : List Step). RefinesSteps p (take_steps occurrence h i ts next) may now r last) (sym is) c))
