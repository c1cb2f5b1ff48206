-- What user-defined helpers are asked, and what they answer.
use Rattle.std.specs.Prelude.{◌≡◌, Bool, List, Option, Some}
use Rattle.serde_json.specs.Data.{Data}
use Rattle.handlebars_base.specs.Answers.{Answer, gives, fails_for}
use Rattle.handlebars_base.specs.Bytes.{Text}
use Rattle.handlebars_base.specs.Reasons.{helper_not_found}
use Rattle.handlebars_scope.specs.Scopes.{Frame}
use Rattle.handlebars_helpers.specs.CallView.{HelperView}

-- what a helper is called with: the view of its call, the given data, the data that replaced it if it was changed, and
-- whether the mode is strict
pub record HelperQuestion : Type 0 where
  pub view : HelperView
  pub given : Data
  pub changed : Option Data
  pub strict : Bool

-- a step of an answer: a text is written, or the body is rendered, or the inverse, or the body in a scope frame
pub data Step : Type 0 where
  writes : Text → Step
  renders_body : Step
  renders_inverse : Step
  renders_body_in : Frame → Step

-- what a helper offers as its value
pub data Offer : Type 0 where
  not_offered : Offer
  offers_missing : Offer
  offers : Data → Offer

-- A helper: the answers that it has when it is called, steps or none, and when it is asked for a value.
pub record UserHelper : Type 1 where
  pub has_steps : HelperQuestion → Answer (Option (List Step)) → Type 0
  pub has_offer : HelperQuestion → Answer Offer → Type 0

-- There is at most one answer. The statement is a mere proposition.
abbrev pub HasOne : {A : Type 0} → (Answer A → Type 0) → Type 0
HasOne {A = A} has = (x y : Answer A) → has x → has y → ∥ x ≡ y ∥₁

-- the law of helpers: to each question there is at most one answer
pub record AnswersOnce (user : UserHelper) : Type 0 where
  pub steps : (q : HelperQuestion) → HasOne (user.has_steps q)
  pub offer : (q : HelperQuestion) → HasOne (user.has_offer q)

-- A user-defined helper has no steps, and so writes nothing but the value that it offers.
abbrev pub GivesValues : UserHelper → Type 0
GivesValues helper = (q : HelperQuestion) (steps : List Step) → helper.has_steps q (gives (Some steps)) → ⊥

-- the helper if no user-defined one has the name
abbrev pub no_user_helper : Text → UserHelper
no_user_helper name = record {
  has_steps = λ q a. a ≡ fails_for (helper_not_found name);
  has_offer = λ q a. a ≡ fails_for (helper_not_found name);
}
