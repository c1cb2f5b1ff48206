-- What is registered, and what all that is user-defined answers.
use Rattle.std.specs.Prelude.{Option}
use Rattle.handlebars_base.specs.Bytes.{Text}
use Rattle.handlebars_helpers.specs.Callee.{Callee}
use Rattle.handlebars_helpers.specs.Decoration.{DecoratorKind}
use Rattle.handlebars_helpers.specs.Escaping.{Escaping, UserEscape}
use Rattle.handlebars_helpers.specs.UserHelper.{UserHelper, AnswersOnce, HasOne}
use Rattle.handlebars_helpers.specs.UserDecorator.{UserDecorator, DecoratorQuestion}

-- the helper and the decorator under a name, if there are any; and how values are escaped
pub record Registrations : Type 0 where
  pub helper : Text → Option Callee
  pub decorator : Text → Option DecoratorKind
  pub escape : Escaping

-- what the user-defined helper and the user-defined decorator of a name answer; and what the answer is for a text to escape
pub record UserAnswers : Type 1 where
  pub helper : Text → UserHelper
  pub decorator : Text → UserDecorator
  pub escape : UserEscape

-- Nothing has two answers to one question.
pub record HaveOne (user : UserAnswers) : Type 0 where
  pub helpers : (name : Text) → AnswersOnce (user.helper name)
  pub decorators : (name : Text) (q : DecoratorQuestion) → HasOne (user.decorator name q)
  pub escape : (t : Text) → HasOne (user.escape t)
