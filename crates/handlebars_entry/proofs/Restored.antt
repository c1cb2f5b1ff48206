-- What was executed over the scope frames and the run of a context, said of the context.
use Rattle.std.proofs.Common.{◌≡◌, subst, sym}
use Rattle.std.specs.declared.io.Error.{Error}
use Rattle.handlebars_semantics.specs.State.{Setting, State}
use Rattle.handlebars_semantics.specs.Steps.{Prog, Steps}
use Rattle.handlebars_write.specs.View.{Answered, Holding, RefinesProg, RefinesSteps, moment_at}

pub restored : (says : State → State → Type 0) {s t before after : State} → s ≡ before → after ≡ t → says s t → says before after
restored says {s = s} {after = after} first last has =
    subst (λ (z : State). says z after) first (subst (λ (z : State). says s z) (sym last) has)

module _ (p : Setting) (may : Error → Type 0) {s t before after : State} {h l new : Holding} {q r : Answered}
    (first : s ≡ before) (last : after ≡ t) (answer : q ≡ r) where
  pub prog-restored : {m : Prog (Unit {0})} → new ≡ l → RefinesProg p m may (moment_at s h) r (moment_at t new)
      → RefinesProg p m may (moment_at before h) q (moment_at after l)
  prog-restored {m = m} same refines =
      restored (λ a b. RefinesProg p m may (moment_at a h) q (moment_at b l)) first last
      (subst (λ (z : Holding). RefinesProg p m may (moment_at s h) q (moment_at t z)) same
      (subst (λ (z : Answered). RefinesProg p m may (moment_at s h) z (moment_at t new)) (sym answer) refines))

  pub steps-restored : {k : Steps} → new ≡ l → RefinesSteps p k may (moment_at s h) r (moment_at t new)
      → RefinesSteps p k may (moment_at before h) q (moment_at after l)
  steps-restored {k = k} same refines =
      restored (λ a b. RefinesSteps p k may (moment_at a h) q (moment_at b l)) first last
      (subst (λ (z : Holding). RefinesSteps p k may (moment_at s h) q (moment_at t z)) same
      (subst (λ (z : Answered). RefinesSteps p k may (moment_at s h) z (moment_at t new)) (sym answer) refines))
