-- What the callees of calls choose.
use Rattle.std.specs.Prelude.{◌≢◌, Bool, true, List, [], unwrap_or}
use Rattle.serde_json.specs.Data.{Data}
use Rattle.handlebars_base.specs.Answers.{Answer, gives, fails}
use Rattle.handlebars_base.specs.Bytes.{Text}
use Rattle.handlebars_base.specs.Reasons.{Refusal, out_of_memory}
use Rattle.handlebars_base.specs.RenderRefusals.{reason_in, refusal_of}
use Rattle.handlebars_base.specs.Scoped.{Found, data_in}
use Rattle.handlebars_base.specs.declared.error.render_error.RenderError.{RenderError}
use Rattle.handlebars_template.specs.Tree.{Call, args_hash, args_params, as_name, call_args, call_name}
use Rattle.handlebars_helpers.specs.CallView.{CallView, with_constants}
use Rattle.handlebars_helpers.specs.Callee.{Callee, Target}
use Rattle.handlebars_helpers.specs.Choice.{Choice, built_in_choice}
use Rattle.handlebars_semantics.specs.Asks.{Asks, only, ◌>>=◌}
use Rattle.handlebars_semantics.specs.Execute.{view_with_bodies}
use Rattle.handlebars_semantics.specs.Questions.{HasChoice, HasRegisteredChoice}
use Rattle.handlebars_semantics.specs.Sections.{section_call, section_kind}
use Rattle.handlebars_semantics.specs.State.{Setting, State}
use Rattle.handlebars_semantics.specs.Values.{HashHasValues, HaveValues, is_viewed}
use Rattle.handlebars_expand.specs.View.{name_alone}
use Rattle.handlebars_expand.specs.UserChoice.{user_choice_of}
use Rattle.handlebars_values.specs.ChoiceView.{IsChoiceOf, choice_seen}
use Rattle.handlebars_elements.specs.declared.chosen.Chosen.{Chosen}
use Rattle.handlebars_elements.specs.declared.chosen.Chosen.TheVariants.{BuiltIn, User}

-- what was chosen
abbrev pub chosen_of : Chosen → Choice
chosen_of (BuiltIn choice) = choice_seen choice
chosen_of (User choice) = user_choice_of choice

-- A value that the body is rendered at, and that was reached in data, was reached in the given data, which are these.
abbrev pub IsChosenOf : Data → Chosen → Type 0
IsChosenOf d (BuiltIn choice) = IsChoiceOf d choice
IsChosenOf d (User choice) = Unit {0}

-- the view of a call by this name: its parameters are evaluated in order, then its hash arguments
abbrev pub IsViewedAs : Setting → State → Call → Text → Asks CallView
IsViewedAs p s c name =
    is_viewed (only (gives name)) (HaveValues p s (args_params (call_args c))) (HashHasValues p s (args_hash (call_args c)))

-- what the target of a call by this name chooses
abbrev pub HasTargetChoice : Setting → State → Bool → Call → Text → Target → Asks Choice
HasTargetChoice p s block c name target = IsViewedAs p s c name >>= (λ v. HasChoice p s target (view_with_bodies block c v))

-- what a callee chooses for a call by this name, with these constants before its parameters
abbrev pub HasCalleeChoice : Setting → State → Bool → Call → Text → Callee → List Data → Asks Choice
HasCalleeChoice p s block c name callee constants =
    IsViewedAs p s c name >>= (λ v. HasRegisteredChoice p s callee (with_constants constants (view_with_bodies block c v)))

abbrev pub fails_viewing : Refusal → Answer CallView
fails_viewing r = fails r

-- A call by this name fails with the error, unless viewing it fails first.
abbrev pub FailsNext : Setting → State → Call → Text → RenderError → Refusal → Type 0
FailsNext p s c name error r = (IsViewedAs p s c name >>= (λ v. only (fails_viewing (refusal_of error)))) (fails r)

abbrev pub FailsFor : Setting → State → Call → Text → RenderError → RenderError → Type 0
FailsFor p s c name error e = reason_in e ≢ out_of_memory → FailsNext p s c name error (refusal_of e)

-- what a section chooses by its value
abbrev pub section_choice : Bool → Call → Found → Answer Choice
section_choice strict c found = built_in_choice strict (section_kind (data_in found))
    (view_with_bodies true c (section_call (call_name c) (name_alone (unwrap_or (as_name (call_name c)) [])) found).1)
