-- What is registered, and what it answers, given what the stored user-defined parts answer.
use Rattle.std.specs.Prelude.{List, Option}
use Rattle.handlebars_base.specs.Answers.{Answer}
use Rattle.handlebars_base.specs.Bytes.{Text}
use Rattle.handlebars_helpers.specs.ByNameView.{entry_at}
use Rattle.handlebars_helpers.specs.Decoration.{Action}
use Rattle.handlebars_helpers.specs.DecoratorEntryView.{decorators_of, user_decorator_at}
use Rattle.handlebars_helpers.specs.EntryView.{callees_of, user_at}
use Rattle.handlebars_helpers.specs.EscapeView.{kind_escaping, user_escape_of}
use Rattle.handlebars_helpers.specs.UserHelper.{HelperQuestion, Step, Offer}
use Rattle.handlebars_helpers.specs.UserAnswers.{UserAnswers, Registrations}
use Rattle.handlebars_helpers.specs.UserDecorator.{DecoratorQuestion}
use Rattle.handlebars_helpers.specs.declared.entries.Entries.{Entries}

module _ {B F D G X : Type 0} where
  abbrev pub registered_in : Entries B F D G X → Registrations
  registered_in e = record {
    helper = callees_of e.helpers;
    decorator = decorators_of e.decorators;
    escape = kind_escaping e.escape;
  }

  module _ (has_steps : B → HelperQuestion → Answer (Option (List Step)) → Type 0) (has_offer : B → HelperQuestion → Answer Offer → Type 0)
      (function_steps : F → HelperQuestion → Answer (Option (List Step)) → Type 0) (function_offer : F → HelperQuestion → Answer Offer → Type 0)
      (has_actions : D → DecoratorQuestion → Answer (List Action) → Type 0) (function_actions : G → DecoratorQuestion → Answer (List Action) → Type 0)
      (has_escaped : X → Text → Answer Text → Type 0) where
    abbrev pub user_answers : Entries B F D G X → UserAnswers
    user_answers e = record {
      helper = λ name. user_at has_steps has_offer function_steps function_offer name (entry_at e.helpers name);
      decorator = λ name. user_decorator_at has_actions function_actions name (entry_at e.decorators name);
      escape = user_escape_of has_escaped e.escape;
    }
