-- What functions answer that callers use as helpers and decorators.
use Rattle.std.specs.Prelude.{◌≡◌, ◌≢◌, Bool, Option, Result, MatchResult}
use Rattle.std.specs.Borrow.{Bor}
use Rattle.std.specs.Coded.{Π_prop, →_prop}
use Rattle.std.proofs.Math.Logic.{∥∥₁_prop}
use Rattle.handlebars_base.specs.Answers.{Answer, gives, fails_for}
use Rattle.handlebars_base.specs.Reasons.{out_of_memory}
use Rattle.handlebars_scope.specs.declared.context.Context.{Context}
use Rattle.handlebars_helpers.specs.FnErrors.{fn_reason}
use Rattle.handlebars_helpers.specs.UserHelper.{HasOne}
use Rattle.handlebars_helpers.specs.declared.fn_error.FnError.{FnError}

-- What the result of a call says, which is nothing if memory ran out.
abbrev pub ResultSays : {T A : Type 0} → (T → A) → Result T FnError → Answer A → Type 0
ResultSays seen r a =
    MatchResult r (λ x. a ≡ gives (seen x)) (λ e. (fn_reason e ≢ out_of_memory) × (a ≡ fails_for (fn_reason e)))

-- the results that a function may have: for a view, the given data, the data that replaced it, and whether the mode is strict
abbrev pub Results : Type 0 → Type 0 → Type 1
Results V T = Bor V → Bor Context → Bor (Option (Bor Context)) → Bool → Result T FnError → Type 0

module _ {V Q T A : Type 0} (asked : V → Context → Option (Bor Context) → Bool → Q) (seen : T → A) where
  -- Some call that asks the question has a result that says this answer.
  pub record AnswersAt (results : Results V T) (q : Q) (a : Answer A) : Type 0 where
    pub view : Bor V
    pub given : Bor Context
    pub changed : Bor (Option (Bor Context))
    pub strict : Bool
    pub result : Result T FnError
    pub asks : asked view.now given.now changed.now strict ≡ q
    pub has : results view given changed strict result
    pub says : ResultSays seen result a

  -- There is at most one answer to each question, whichever call asks it.
  abbrev pub AnswersOnceAt : Results V T → Type 0
  AnswersOnceAt results = (q : Q) → HasOne (AnswersAt results q)

  pub AnswersOnceAt_prop : (results : Results V T) → IsProp (AnswersOnceAt results)
  AnswersOnceAt_prop results = Π_prop (λ q. Π_prop (λ a. Π_prop (λ b. →_prop (→_prop ∥∥₁_prop))))
