-- What the steps of a run ask, and the answers. Only here does a run read its setting: the data, the helpers and the
-- decorators, how values are escaped, and the mode.
use Rattle.std.specs.Prelude.{Bool, false, ◌&&◌, if◌then◌else◌, List, Option, None, Some}
use Rattle.handlebars_base.specs.Answers.{Answer, gives, fails_for}
use Rattle.handlebars_base.specs.Bytes.{Text}
use Rattle.handlebars_base.specs.Reasons.{decorator_not_found, missing_variable}
use Rattle.handlebars_base.specs.Scoped.{Found}
use Rattle.handlebars_template.specs.Tree.{Param, Args, Call, call_name, is_value, as_name}
use Rattle.handlebars_helpers.specs.CallView.{CallView, HelperView}
use Rattle.handlebars_helpers.specs.Callee.{Callee, built, user, Target, calls_registered, calls_local}
use Rattle.handlebars_helpers.specs.Choice.{Choice, built_in_choice, null_or_refusal, the_value, the_steps, nothing}
use Rattle.handlebars_helpers.specs.Decoration.{DecoratorKind, kind_inline, kind_user, DecoratorView, Action, inline_actions}
use Rattle.handlebars_helpers.specs.Escaping.{HasEscaped}
use Rattle.handlebars_helpers.specs.UserHelper.{Step, Offer, not_offered, offers_missing, offers}
use Rattle.handlebars_helpers.specs.UserDecorator.{DecoratorQuestion}
use Rattle.handlebars_semantics.specs.Asks.{Asks, only, ◌>>=◌}
use Rattle.handlebars_semantics.specs.Sections.{HasSectionIf}
use Rattle.handlebars_semantics.specs.State.{Parts, Setting, State, hook, helper_named, helper_for, registered_target, local_call}
use Rattle.handlebars_semantics.specs.Values.{HasSteps, HasOffer, HasValue, HasView}

-- The questions, in order:
-- - the value of a parameter;
-- - the view of a call or of another tag, by its name and its arguments;
-- - the helper of a name, if it has one;
-- - what a call of this view calls, of a block or not, and the view that is passed to it;
-- - the hook that is called for a parameter without a value, if there is one;
-- - what a helper chooses for a call;
-- - the text of a value, escaped;
-- - the decorator of a name;
-- - the actions of a decorator for a tag.
pub data Question : Type 0 where
  value_of : Param → Question
  view_of : Param → Args → Question
  helper_of : Text → Question
  called_as : Bool → Call → CallView → Question
  hook_for : Param → Question
  choice_of : Target → HelperView → Question
  escape_of : Text → Question
  decorator_of : Text → Question
  actions_of : DecoratorKind → DecoratorView → Question

abbrev pub Reply : Question → Type 0
Reply (value_of q) = Found
Reply (view_of n xs) = CallView
Reply (helper_of name) = Option Target
Reply (called_as block c v) = Target × CallView
Reply (hook_for q) = Option Target
Reply (choice_of target h) = Choice
Reply (escape_of t) = Text
Reply (decorator_of name) = DecoratorKind
Reply (actions_of kind v) = List Action

-- The helper of the name, or the hook, is called with the call's own view. If there is neither, a block without parameters
-- and hash arguments is a section, if sections are allowed.
abbrev pub HasCalled : Setting → State → Bool → Call → CallView → Option Target → Asks (Target × CallView)
HasCalled p s block c v None = HasSectionIf (p.parts.sections && (block && is_value c)) p s (call_name c) v
HasCalled p s block c v (Some k) = only (gives (k, v))

-- A tag whose name has no decorator fails with `decorator_not_found`.
abbrev pub decorator_or_refusal : Text → Option DecoratorKind → Answer DecoratorKind
decorator_or_refusal name None = fails_for (decorator_not_found name)
decorator_or_refusal name (Some k) = gives k

-- In strict mode a missing value fails with `missing_variable`, with its text as written. Otherwise the hook is called, if
-- there is one.
abbrev pub hook_or_refusal : Parts → Param → Answer (Option Target)
hook_or_refusal parts q =
    if parts.strict then fails_for (missing_variable (as_name q)) else gives (registered_target parts (hook false))

-- A value that a user-defined helper offers is chosen. A missing value is null, and in strict mode an error. If none is
-- offered, nothing is chosen.
abbrev pub offer_choice : Bool → Offer → Answer Choice
offer_choice strict not_offered = gives nothing
offer_choice strict offers_missing = null_or_refusal strict
offer_choice strict (offers d) = gives (the_value d)

-- A user-defined helper is called first. If it has no steps, it is asked for a value.
abbrev pub steps_or_offer : Setting → State → Text → HelperView → Option (List Step) → Asks Choice
steps_or_offer p s called h None = HasOffer p s called h >>= (λ offer. only (offer_choice p.parts.strict offer))
steps_or_offer p s called h (Some steps) = only (gives (the_steps steps))

-- what this registered helper chooses
abbrev pub HasRegisteredChoice : Setting → State → Callee → HelperView → Asks Choice
HasRegisteredChoice p s (built kind) h = only (built_in_choice p.parts.strict kind h)
HasRegisteredChoice p s (user called) h = HasSteps p s called h >>= steps_or_offer p s called h

-- what the target of a call chooses
abbrev pub HasChoice : Setting → State → Target → HelperView → Asks Choice
HasChoice p s (calls_registered k) h = HasRegisteredChoice p s k h
HasChoice p s (calls_local name) h =
    only (local_call p.parts (s.local name) name h) >>= (λ c. HasRegisteredChoice p s c.0 c.1)

-- what a user-defined decorator is asked about in a state
abbrev pub decorator_question : Setting → State → DecoratorView → DecoratorQuestion
decorator_question p s v = record { view = v; given = p.given; changed = s.changed; strict = p.parts.strict }

-- the actions of a decorator for a tag
abbrev pub HasActions : Setting → State → DecoratorKind → DecoratorView → Asks (List Action)
HasActions p s kind_inline v = only (inline_actions v)
HasActions p s (kind_user called) v = p.parts.user_decorator called (decorator_question p s v)

-- the answers that a question has in a state
abbrev pub IsAnswered : Setting → State → (q : Question) → Asks (Reply q)
IsAnswered p s (value_of q) = HasValue p s q
IsAnswered p s (view_of n xs) = HasView p s n xs
IsAnswered p s (helper_of name) = only (gives (helper_named p.parts s name))
IsAnswered p s (called_as block c v) = HasCalled p s block c v (helper_for p.parts s block v.name)
IsAnswered p s (hook_for q) = only (hook_or_refusal p.parts q)
IsAnswered p s (choice_of target h) = HasChoice p s target h
IsAnswered p s (escape_of t) = HasEscaped p.parts.escape p.parts.user_escape t
IsAnswered p s (decorator_of name) = only (decorator_or_refusal name (p.parts.decorator name))
IsAnswered p s (actions_of kind v) = HasActions p s kind v
