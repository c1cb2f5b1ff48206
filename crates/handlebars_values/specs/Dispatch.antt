-- What calls are dispatched to, as the code has it.
use Rattle.std.specs.Prelude.{◌≢◌, map, Option, option_map, unwrap_or, Result, Ok, Err}
use Rattle.serde_json.specs.View.{view}
use Rattle.handlebars_base.specs.Answers.{Answer, fails, gives}
use Rattle.handlebars_base.specs.Bytes.{Text}
use Rattle.handlebars_base.specs.Reasons.{out_of_memory}
use Rattle.handlebars_base.specs.RenderRefusals.{reason_in, refusal_of}
use Rattle.handlebars_base.specs.Scoped.{Found}
use Rattle.handlebars_base.specs.declared.error.render_error.RenderError.{RenderError}
use Rattle.handlebars_template.specs.Tree.{Args, args_hash, args_params}
use Rattle.handlebars_helpers.specs.CallView.{CallView, HelperView, with_constants}
use Rattle.handlebars_helpers.specs.Callee.{Callee, Target, built, user}
use Rattle.handlebars_helpers.specs.View.{built_in_kind}
use Rattle.handlebars_semantics.specs.Asks.{Asks, only, ◌>>=◌}
use Rattle.handlebars_semantics.specs.State.{Setting, State}
use Rattle.handlebars_semantics.specs.Values.{HasHelpedValue, HasRegisteredValue, HashHasValues, HaveValues, is_viewed}
use Rattle.handlebars_values.specs.declared.dispatch.Dispatched.{Dispatched}
use Rattle.handlebars_values.specs.declared.dispatch.Dispatched.TheVariants.{BuiltIn, User}

-- the callee that a call of this view goes to, and the view that it is called with
abbrev pub dispatched_of : HelperView → Dispatched → Callee × HelperView
dispatched_of h (BuiltIn kind constants) = (built (built_in_kind kind), with_constants (map view constants.now) h)
dispatched_of h (User asked_by constants) =
    (user (unwrap_or (option_map (λ t. t.now) asked_by) h.call.name), with_constants (map view constants.now) h)

-- Whatever value the callee has for the view that it is called with, a call of this view in parentheses has. On an error (other
-- than out of memory) the call fails with it.
abbrev pub HasValueOf : Setting → State → Option Target → HelperView → Result Dispatched RenderError → Type 0
HasValueOf p s target h (Ok d) =
    (a : Answer Found) → HasRegisteredValue p s (dispatched_of h d).0 (dispatched_of h d).1 a → HasHelpedValue p s target h a
HasValueOf p s target h (Err e) = reason_in e ≢ out_of_memory → HasHelpedValue p s target h (fails (refusal_of e))

-- ---- calls by a name that is known

-- the view of a call by this name, with these arguments
abbrev pub HasViewBy : Setting → State → Text → Args → Asks CallView
HasViewBy p s name xs =
    is_viewed (only (gives name)) (HaveValues p s (args_params xs)) (HashHasValues p s (args_hash xs))

-- what is asked next about the view
abbrev pub HasValueBy : Setting → State → Text → Args → (CallView → Asks Found) → Asks Found
HasValueBy p s name xs next = HasViewBy p s name xs >>= next
