-- What user-defined decorators are asked, and what they answer.
use Rattle.std.specs.Prelude.{◌≡◌, Bool, List, Option}
use Rattle.serde_json.specs.Data.{Data}
use Rattle.handlebars_base.specs.Answers.{Answer, fails_for}
use Rattle.handlebars_base.specs.Bytes.{Text}
use Rattle.handlebars_base.specs.Reasons.{decorator_not_found}
use Rattle.handlebars_helpers.specs.Decoration.{DecoratorView, Action}

-- what a decorator is called with: the view of its tag, the given data, the data that replaced it if it was changed, and
-- whether the mode is strict
pub record DecoratorQuestion : Type 0 where
  pub view : DecoratorView
  pub given : Data
  pub changed : Option Data
  pub strict : Bool

-- A decorator: the answers that it has for a tag, which are its actions in order.
abbrev pub UserDecorator : Type 1
UserDecorator = DecoratorQuestion → Answer (List Action) → Type 0

-- the answer if no user-defined decorator has the name
abbrev pub no_user_decorator : Text → UserDecorator
no_user_decorator name q a = a ≡ fails_for (decorator_not_found name)
