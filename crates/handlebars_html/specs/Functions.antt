-- Registries whose user-defined parts are functions, and the law of the check at these.
use Rattle.std.specs.Prelude.{◌≡◌, ℕ, Bool, if◌then◌else◌, List, [], ◌∷◌, Option, None, Some}
use Rattle.std.specs.Str.{bytes_eq}
use Rattle.serde_json.specs.Data.{Data}
use Rattle.handlebars_base.specs.Answers.{Answer}
use Rattle.handlebars_base.specs.Bytes.{Text}
use Rattle.handlebars_template.specs.Tree.{Tree}
use Rattle.handlebars_helpers.specs.Callee.{Callee}
use Rattle.handlebars_helpers.specs.Decoration.{DecoratorKind, Action}
use Rattle.handlebars_helpers.specs.Escaping.{Escaping}
use Rattle.handlebars_helpers.specs.UserDecorator.{DecoratorQuestion}
use Rattle.handlebars_helpers.specs.UserHelper.{HelperQuestion, Step, Offer}
use Rattle.handlebars_semantics.specs.State.{Setting}
use Rattle.handlebars_html.specs.Registry.{UserDefined, Lists}
use Rattle.handlebars_html.specs.Search.{Pages, no_faults, IsVerdict, IsPage, KeepsDataSafeIn}

-- What is registered under the names of helpers and of decorators, and what user-defined ones answer; how values are escaped, and
-- what a user-defined escape function answers; the templates; and the modes.
pub record FunctionRegistry : Type 0 where
  pub helper : Text → Option Callee
  pub steps : Text → HelperQuestion → Answer (Option (List Step))
  pub offer : Text → HelperQuestion → Answer Offer
  pub decorator : Text → Option DecoratorKind
  pub actions : Text → DecoratorQuestion → Answer (List Action)
  pub escape : Escaping
  pub escaped : Text → Answer Text
  pub templates : List (Text × Tree)
  pub strict : Bool
  pub recursive : Bool
  pub sections : Bool
  pub limit : ℕ

-- the first template of this name
abbrev pub template_in : List (Text × Tree) → Text → Option Tree
template_in [] n = None
template_in (x ∷ xs) n = if bytes_eq x.0 n then Some x.1 else template_in xs n

-- such a registry, over this data
abbrev pub setting_of : FunctionRegistry → Data → Setting
setting_of r d = record {
  given = d;
  parts = record {
    helper = r.helper;
    user = λ n. record { has_steps = λ q a. a ≡ r.steps n q; has_offer = λ q a. a ≡ r.offer n q };
    decorator = r.decorator;
    user_decorator = λ n q a. a ≡ r.actions n q;
    escape = r.escape;
    user_escape = λ t a. a ≡ r.escaped t;
    strict = r.strict;
    recursive = r.recursive;
    sections = r.sections;
    template = template_in r.templates;
    limit = r.limit;
  };
}

-- If the check finds no fault, in what is user-defined or in the pages, then in each run of a page, whatever the data, and however
-- the run ends, data stands only where it may.
abbrev pub CheckedKeepDataSafe : Type 0
CheckedKeepDataSafe =
    (r : FunctionRegistry) (d : Data) (u : UserDefined) → Lists (setting_of r d).parts u
    → (pages : Pages) → IsVerdict u r.templates pages no_faults → (t : Tree) → IsPage (template_in r.templates) pages t
    → KeepsDataSafeIn (setting_of r d) t
