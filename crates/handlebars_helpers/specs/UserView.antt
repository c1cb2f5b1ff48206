-- What the answers of user-defined helpers stand for.
use Rattle.std.specs.Prelude.{◌≢◌, Bool, List, map, Option, option_map, Result, MatchResult, string_bytes, Vec}
use Rattle.std.specs.Borrow.{Bor}
use Rattle.std.specs.declared.alloc.Global.{Global}
use Rattle.serde_json.specs.View.{view}
use Rattle.handlebars_base.specs.Answers.{Answer, gives, fails}
use Rattle.handlebars_base.specs.Bytes.{Text}
use Rattle.handlebars_base.specs.Reasons.{out_of_memory}
use Rattle.handlebars_base.specs.RenderRefusals.{reason_in, refusal_of}
use Rattle.handlebars_base.specs.declared.error.render_error.RenderError.{RenderError}
use Rattle.handlebars_scope.specs.Contexts.{data_of}
use Rattle.handlebars_scope.specs.ScopeView.{frame_of}
use Rattle.handlebars_scope.specs.declared.context.Context.{Context}
use Rattle.handlebars_helpers.specs.Callee as plain
use Rattle.handlebars_helpers.specs.UserHelper.{HelperQuestion, Step, writes, renders_body, renders_inverse, renders_body_in, Offer, not_offered, offers_missing, offers}
use Rattle.handlebars_helpers.specs.View.{helper_view, built_in_kind}
use Rattle.handlebars_helpers.specs.declared.user.Callee.{Callee}
use Rattle.handlebars_helpers.specs.declared.user.Callee.TheVariants.{Built, User}
use Rattle.handlebars_helpers.specs.declared.user.LocalHelper as declared
use Rattle.handlebars_helpers.specs.declared.user.HelperStep.{HelperStep}
use Rattle.handlebars_helpers.specs.declared.user.HelperStep.TheVariants.{Write, Body, Inverse, BodyIn}
use Rattle.handlebars_helpers.specs.declared.user.HelperValue.{HelperValue}
use Rattle.handlebars_helpers.specs.declared.user.HelperValue.TheVariants.{NotOffered, Missing, Value}
use Rattle.handlebars_helpers.specs.declared.view.Helper.{Helper}

-- what is registered under this name
abbrev pub callee_of : Text → Callee → plain.Callee
callee_of name (Built b) = plain.built (built_in_kind b)
callee_of name User = plain.user name

abbrev pub local_of : declared.LocalHelper → plain.LocalHelper
local_of l = record { registered = string_bytes l.registered; constants = map view l.constants.items }

abbrev pub step_of : HelperStep → Step
step_of (Write t) = writes (string_bytes t)
step_of Body = renders_body
step_of Inverse = renders_inverse
step_of (BodyIn b) = renders_body_in (frame_of b)

abbrev pub steps_of : Option (Vec HelperStep Global) → Option (List Step)
steps_of steps = option_map (λ v. map step_of v.items) steps

abbrev pub offer_of : HelperValue → Offer
offer_of NotOffered = not_offered
offer_of Missing = offers_missing
offer_of (Value v) = offers (view v)

-- What a call returns: its value is one of the answers, or it fails with an error that is one of them, or memory runs out.
abbrev pub IsOneOf : {T A : Type 0} → (Answer A → Type 0) → (T → A) → Result T RenderError → Type 0
IsOneOf has seen r =
    MatchResult r (λ x. has (gives (seen x))) (λ e. reason_in e ≢ out_of_memory → has (fails (refusal_of e)))

-- what a helper is called with, by the arguments of the code
abbrev pub helper_question_of : Helper → Context → Option (Bor Context) → Bool → HelperQuestion
helper_question_of h given changed strict = record {
  view = helper_view h;
  given = data_of given;
  changed = option_map (λ c. data_of c.now) changed;
  strict = strict;
}
