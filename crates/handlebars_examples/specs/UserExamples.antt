-- User-defined helpers, each with the outcome of a tree that calls it.
use Rattle.std.specs.Prelude.{◌≡◌, Bool, true, false, List, [], ◌∷◌, Option, None, Some, bytes_eq, codes, cond}
use Rattle.serde_json.specs.Data.{Data, number, string, unsigned}
use Rattle.handlebars_base.specs.Answers.{Answer, gives}
use Rattle.handlebars_base.specs.Bytes.{Text}
use Rattle.handlebars_base.specs.Path.{relative}
use Rattle.handlebars_base.specs.Reasons.{missing_variable}
use Rattle.handlebars_base.specs.RenderRefusals.{plain_refusal}
use Rattle.handlebars_template.specs.Tree.{Element, escaped_expression, path, subexpression, no_body}
use Rattle.handlebars_scope.specs.Scopes.{Frame, empty_frame}
use Rattle.handlebars_helpers.specs.Callee.{user}
use Rattle.handlebars_helpers.specs.UserHelper.{Step, writes, renders_body, renders_inverse, renders_body_in, Offer, not_offered, offers_missing, offers, UserHelper}
use Rattle.handlebars_semantics.specs.Answer.{GivesText, RenderAnswers}
use Rattle.handlebars_semantics.specs.Laws.{alone}
use Rattle.handlebars_semantics.specs.Runs.{Failed}
use Rattle.handlebars_semantics.specs.State.{Setting}
use Rattle.handlebars_examples.specs.Examples.{block, single_body, call_with_params, first_parts, from_registered, one_name_path, text_body}

-- a helper that has only these results
abbrev pub answering : Answer (Option (List Step)) → Answer Offer → UserHelper
answering steps offer = record { has_steps = λ q a. a ≡ steps; has_offer = λ q a. a ≡ offer }

-- a run over data, in strict mode or not, in which every name but `this` has this helper
abbrev pub over_user_helper : Bool → UserHelper → Data → Setting
over_user_helper strict helper given = record {
  given = given;
  parts = record first_parts {
    helper = λ name. cond (bytes_eq name (codes "this")) None (Some (user name));
    user = λ name. helper;
    strict = strict;
  };
}

-- what is written if the mode isn't strict
abbrev pub WritesWithUserHelper : UserHelper → Data → Element → Text → Type 0
WritesWithUserHelper helper given e t = GivesText (over_user_helper false helper given) (from_registered (alone e)) t

abbrev pub steps : List Step → UserHelper
steps xs = answering (gives (Some xs)) (gives not_offered)

abbrev pub offering : Offer → UserHelper
offering x = answering (gives None) (gives x)

-- ---- steps

-- the value itself
abbrev pub this_element : Element
this_element = escaped_expression (call_with_params (path (relative [] (codes "this"))) [])

-- a scope frame whose value is 7
abbrev pub seven : Frame
seven = record empty_frame { base_value = Some (number (unsigned 7)) }

-- Steps are taken in order: a text is written as it is, the inverse and the body are rendered, and the body in a scope frame,
-- which is left afterwards.
abbrev pub StepsExample : Type 0
StepsExample = WritesWithUserHelper
    (steps (writes (codes "<") ∷ renders_inverse ∷ renders_body ∷ renders_body_in seven ∷ renders_body ∷ []))
    (string (codes "d")) (block (codes "s") [] (single_body this_element) (text_body (codes "i"))) (codes "<id7d")

-- An empty list of steps writes nothing.
abbrev pub NoStepsExample : Type 0
NoStepsExample = (given : Data) → WritesWithUserHelper (steps []) given (block (codes "e") [] (text_body (codes "a")) no_body) []

-- An expression has no body, and nothing is rendered for it.
abbrev pub BodilessExample : Type 0
BodilessExample = (given : Data) → WritesWithUserHelper (steps (renders_body ∷ writes (codes "x") ∷ []))
    given (escaped_expression (call_with_params (one_name_path (codes "f")) [])) (codes "x")

-- ---- offers

-- If a helper has no steps, the value that it offers is written, escaped.
abbrev pub OfferExample : Type 0
OfferExample = (given : Data) → WritesWithUserHelper (offering (offers (string (codes "<"))))
    given (escaped_expression (call_with_params (one_name_path (codes "f")) [])) (codes "&lt;")

-- If it offers nothing, nothing is written.
abbrev pub NotOfferedExample : Type 0
NotOfferedExample = (given : Data) → WritesWithUserHelper (offering not_offered) given (escaped_expression (call_with_params (one_name_path (codes "f")) [])) []

-- A missing value is an error in strict mode.
abbrev pub MissingOfferExample : Type 0
MissingOfferExample = (given : Data) → RenderAnswers (over_user_helper true (offering offers_missing) given)
    (from_registered (alone (escaped_expression (call_with_params (one_name_path (codes "f")) [])))) []
    (Failed (plain_refusal (missing_variable None)))

-- In parentheses a helper is asked for a value first. If it has none, the text that it writes is its value, which is escaped
-- like any other. Here that text is the name that is called, and the steps of the helper of that name are taken: {{(f)}}.
abbrev pub InnerUserExample : Type 0
InnerUserExample = (given : Data) → WritesWithUserHelper (steps (writes (codes "a") ∷ renders_body ∷ writes (codes "b") ∷ []))
    given (escaped_expression (call_with_params (subexpression (escaped_expression (call_with_params (one_name_path (codes "f")) []))) [])) (codes "ab")
