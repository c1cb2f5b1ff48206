-- Errors of functions, passed on as errors of the rendering.
use Rattle.std.proofs.Common.{◌≡◌, ◌≢◌, ap, ◌∙◌}
use Rattle.handlebars_base.specs.Answers.{Answer, fails, fails_for}
use Rattle.handlebars_base.specs.Reasons.{Refusal, out_of_memory}
use Rattle.handlebars_base.specs.RenderRefusals.{plain_refusal, reason_in, refusal_of}
use Rattle.handlebars_base.specs.declared.error.render_error.RenderError.{RenderError}
use Rattle.handlebars_helpers.specs.FnErrors.{fn_reason}
use Rattle.handlebars_helpers.specs.declared.fn_error.FnError.{FnError}

pub failed-says : {A : Type 0} (r : FnError) (e : RenderError) → refusal_of e ≡ plain_refusal (fn_reason r)
    → reason_in e ≢ out_of_memory
    → (fn_reason r ≢ out_of_memory) × (◌≡◌ {A = Answer A} (fails (refusal_of e)) (fails_for (fn_reason r)))
failed-says r e is fed = (λ z. fed (ap (λ (x : Refusal). x.reason) is ∙ z), ap (λ (x : Refusal). fails x) is)
