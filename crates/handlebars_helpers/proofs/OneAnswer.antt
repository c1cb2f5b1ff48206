-- Nothing that is registered has two answers to one question, because nothing that is stored has.
use Rattle.std.proofs.Common.{◌≡◌, List, Option, Some, None, sym, ◌∙◌}
use Rattle.handlebars_base.specs.Answers.{Answer}
use Rattle.handlebars_base.specs.Bytes.{Text}
use Rattle.handlebars_helpers.specs.Decoration.{Action}
use Rattle.handlebars_helpers.specs.DecoratorEntryView.{user_decorator_at}
use Rattle.handlebars_helpers.specs.EntryView.{user_at}
use Rattle.handlebars_helpers.specs.EscapeView.{user_escape_of}
use Rattle.handlebars_helpers.specs.UserHelper.{HelperQuestion, AnswersOnce, HasOne, Offer, Step}
use Rattle.handlebars_helpers.specs.UserDecorator.{DecoratorQuestion}
use Rattle.handlebars_helpers.specs.declared.decorators.entry.DecoratorEntryOf.{DecoratorEntryOf}
use Rattle.handlebars_helpers.specs.declared.decorators.entry.DecoratorEntryOf.TheVariants as decorator
use Rattle.handlebars_helpers.specs.declared.escape.EscapeKindOf.{EscapeKindOf}
use Rattle.handlebars_helpers.specs.declared.escape.EscapeKindOf.TheVariants as kind
use Rattle.handlebars_helpers.specs.declared.user.entry.HelperEntryOf.{HelperEntryOf}
use Rattle.handlebars_helpers.specs.declared.user.entry.HelperEntryOf.TheVariants.{Built, Own, Function, Value, SafeUrl}

-- a fixed answer is the only one
one-known : {A : Type 0} (k : Answer A) → HasOne (λ a. a ≡ k)
one-known k x y p r = ∣ p ∙ sym r ∣₁

module _ {B F : Type 0} (has_steps : B → HelperQuestion → Answer (Option (List Step)) → Type 0)
    (has_offer : B → HelperQuestion → Answer Offer → Type 0)
    (function_steps : F → HelperQuestion → Answer (Option (List Step)) → Type 0)
    (function_offer : F → HelperQuestion → Answer Offer → Type 0)
    (one_steps : (h : B) (q : HelperQuestion) → HasOne (has_steps h q))
    (one_offer : (h : B) (q : HelperQuestion) → HasOne (has_offer h q))
    (one_function_steps : (f : F) (q : HelperQuestion) → HasOne (function_steps f q))
    (one_function_offer : (f : F) (q : HelperQuestion) → HasOne (function_offer f q)) where
  pub user_at-once : (name : Text) (o : Option (HelperEntryOf B F))
      → AnswersOnce (user_at has_steps has_offer function_steps function_offer name o)
  user_at-once name None = record { steps = λ q. one-known _; offer = λ q. one-known _ }
  user_at-once name (Some (Built b)) = record { steps = λ q. one-known _; offer = λ q. one-known _ }
  user_at-once name (Some (Own h)) = record { steps = one_steps h; offer = one_offer h }
  user_at-once name (Some (Function f)) = record { steps = one_function_steps f; offer = one_function_offer f }
  user_at-once name (Some (Value h)) = record { steps = λ q. one-known _; offer = one_offer h }
  user_at-once name (Some SafeUrl) = record { steps = λ q. one-known _; offer = λ q. one-known _ }

module _ {D G : Type 0} (has_actions : D → DecoratorQuestion → Answer (List Action) → Type 0)
    (function_actions : G → DecoratorQuestion → Answer (List Action) → Type 0)
    (one_actions : (d : D) (q : DecoratorQuestion) → HasOne (has_actions d q))
    (one_function_actions : (f : G) (q : DecoratorQuestion) → HasOne (function_actions f q)) where
  pub user_decorator_at-once : (name : Text) (o : Option (DecoratorEntryOf D G)) (q : DecoratorQuestion)
      → HasOne (user_decorator_at has_actions function_actions name o q)
  user_decorator_at-once name None q = one-known _
  user_decorator_at-once name (Some decorator.Inline) q = one-known _
  user_decorator_at-once name (Some (decorator.Own d)) q = one_actions d q
  user_decorator_at-once name (Some (decorator.Function f)) q = one_function_actions f q

module _ {X : Type 0} (has_escaped : X → Text → Answer Text → Type 0)
    (one_escaped : (e : X) (t : Text) → HasOne (has_escaped e t)) where
  pub user_escape_of-once : (e : EscapeKindOf X) (t : Text) → HasOne (user_escape_of has_escaped e t)
  user_escape_of-once kind.Html t = one-known _
  user_escape_of-once kind.Plain t = one-known _
  user_escape_of-once (kind.Own e) t = one_escaped e t
