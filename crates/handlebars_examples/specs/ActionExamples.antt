-- Decorators and user-defined escape functions, each with the outcome of a tree that calls them.
use Rattle.std.specs.Prelude.{◌≡◌, ◌++◌, List, [], ◌∷◌, None, Some, codes, true}
use Rattle.serde_json.specs.Data.{Data, no_members, number, object, string, unsigned}
use Rattle.handlebars_base.specs.Answers.{Answer, gives, fails_for}
use Rattle.handlebars_base.specs.Bytes.{Text}
use Rattle.handlebars_base.specs.Reasons.{block_content_required, failed, helper_not_found}
use Rattle.handlebars_base.specs.RenderRefusals.{plain_refusal}
use Rattle.handlebars_template.specs.Tree.{Element, decorator_expression, elements_of, escaped_expression, html_expression, literal, no_body, tree, Tree}
use Rattle.handlebars_helpers.specs.Callee.{LocalHelper}
use Rattle.handlebars_helpers.specs.Decoration.{Action, sets_data, binds, unbinds, sets_partial, kind_user}
use Rattle.handlebars_helpers.specs.Escaping.{by_user}
use Rattle.handlebars_semantics.specs.Answer.{GivesText, RenderAnswers}
use Rattle.handlebars_semantics.specs.Runs.{Failed}
use Rattle.handlebars_semantics.specs.State.{Setting}
use Rattle.handlebars_examples.specs.DecoratorExamples.{tag}
use Rattle.handlebars_examples.specs.Examples.{call_with_params, first_parts, from_registered, one_name_path, with}

-- a run over data in which every decorator takes these actions
abbrev pub over_actions : List Action → Data → Setting
over_actions actions given = record {
  given = given;
  parts = record first_parts {
    decorator = λ name. Some (kind_user name);
    user_decorator = λ name q a. a ≡ gives actions;
  };
}

-- {{x}}, and {{*d}}
abbrev pub lone : Text → Element
lone n = escaped_expression (call_with_params (one_name_path n) [])

abbrev pub decorated : Element
decorated = decorator_expression (tag (codes "d") [] no_body)

abbrev pub in_order : List Element → Tree
in_order es = tree (Some (codes "t")) (elements_of es) []

-- what is written when decorators take these actions
abbrev pub WritesAfter : List Action → Data → List Element → Text → Type 0
WritesAfter actions given es t = GivesText (over_actions actions given) (from_registered (in_order es)) t

abbrev pub x_is : Text → Data
x_is t = with (codes "x") (string t)

-- Values come from the data that was set: {{x}}{{*d}}{{x}}.
abbrev pub ChangedExample : Type 0
ChangedExample = WritesAfter (sets_data (x_is (codes "b")) ∷ []) (x_is (codes "a"))
    (lone (codes "x") ∷ decorated ∷ lone (codes "x") ∷ []) (codes "ab")

-- Actions are taken in order, so the data that is set last counts.
abbrev pub LastDataExample : Type 0
LastDataExample = WritesAfter (sets_data (x_is (codes "b")) ∷ sets_data (x_is (codes "c")) ∷ []) (x_is (codes "a"))
    (decorated ∷ lone (codes "x") ∷ []) (codes "c")

-- In data that was set, a missing value is null, in strict mode too.
abbrev pub NullExample : Type 0
NullExample = GivesText
    (record {
      given = x_is (codes "a");
      parts = record first_parts {
        decorator = λ name. Some (kind_user name);
        user_decorator = λ name q a. a ≡ gives (sets_data (object no_members) ∷ []);
        strict = true;
      };
    })
    (from_registered (in_order (decorated ∷ lone (codes "x") ∷ []))) []

-- a local helper: the name is bound to a registered one, with a text before its parameters
abbrev pub bound_to : Text → Text → LocalHelper
bound_to name t = record { registered = name; constants = string t ∷ [] }

-- The values of a local helper come before the parameters of its call: {{*d}}{{h 1}}, where `h` is `eq` with `"1"`.
abbrev pub BoundExample : Type 0
BoundExample = (given : Data) → WritesAfter (binds (codes "h") (bound_to (codes "eq") (codes "1")) ∷ []) given
    (decorated ∷ escaped_expression (call_with_params (one_name_path (codes "h")) (literal (number (unsigned 1)) ∷ [])) ∷ []) (codes "false")

-- A local helper hides a registered one of the same name: {{*d}}{{len}}, where `len` is `len` of `"ab"`.
abbrev pub HidesExample : Type 0
HidesExample = (given : Data) → WritesAfter (binds (codes "len") (bound_to (codes "len") (codes "ab")) ∷ []) given
    (decorated ∷ lone (codes "len") ∷ []) (codes "2")

-- If its name is no longer bound, the registered one is called.
abbrev pub UnboundExample : Type 0
UnboundExample = (given : Data)
    → WritesAfter (binds (codes "len") (bound_to (codes "raw") (codes "ab")) ∷ unbinds (codes "len") ∷ []) given
    (decorated ∷ escaped_expression (call_with_params (one_name_path (codes "len")) (literal (string (codes "abc")) ∷ [])) ∷ []) (codes "3")

-- If nothing is registered under the name that it is bound to, its call fails with that name.
abbrev pub GoneExample : Type 0
GoneExample = (given : Data) → RenderAnswers (over_actions (binds (codes "q") (bound_to (codes "none") []) ∷ []) given)
    (from_registered (tree None (elements_of (decorated ∷ lone (codes "q") ∷ [])) [])) []
    (Failed (plain_refusal (helper_not_found (codes "none"))))

-- Without a body no partial can be set.
abbrev pub NoBodyActionExample : Type 0
NoBodyActionExample = (given : Data) → RenderAnswers (over_actions (sets_partial (codes "p") ∷ []) given)
    (from_registered (tree None (elements_of (decorated ∷ [])) [])) [] (Failed (plain_refusal block_content_required))

-- ---- escape functions

-- a run over data in which a user-defined escape function returns these results
abbrev pub over_escape : (Text → Answer Text) → Data → Setting
over_escape escape given = record {
  given = given;
  parts = record first_parts { escape = by_user; user_escape = λ t a. a ≡ escape t };
}

-- A value is written as the text that the function returns for it, and in three braces as it is: {{x}}{{{x}}}.
abbrev pub UserEscapeExample : Type 0
UserEscapeExample = GivesText (over_escape (λ t. gives (t ++ t)) (x_is (codes "<")))
    (from_registered (in_order (lone (codes "x") ∷ html_expression (call_with_params (one_name_path (codes "x")) []) ∷ []))) (codes "<<<")

-- If the function fails, writing the value fails.
abbrev pub FailedEscapeExample : Type 0
FailedEscapeExample = RenderAnswers (over_escape (λ t. fails_for failed) (x_is (codes "<")))
    (from_registered (tree None (elements_of (lone (codes "x") ∷ [])) [])) [] (Failed (plain_refusal failed))
