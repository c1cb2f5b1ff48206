-- Errors that are propagated in a box.
use Rattle.std.proofs.Common.{◌≡◌, ◌≢◌, refl, sym, ap, ◌∙◌, subst}
use Rattle.handlebars_base.specs.Answers.{fails}
use Rattle.handlebars_base.specs.Reasons.{Reason, Location, Refusal, out_of_memory}
use Rattle.handlebars_base.specs.RenderRefusals.{reason_in, reason_of, location_of, refusal_of}
use Rattle.handlebars_base.specs.declared.error.render_error.RenderError.{RenderError}
use Rattle.handlebars_semantics.specs.Asks.{Asks}
use Rattle.handlebars_semantics.specs.State.{Setting, State}
use Rattle.handlebars_semantics.specs.Steps.{Prog}
use Rattle.handlebars_expand.specs.View.{ValueFails}
use Rattle.handlebars_expand.specs.Boxed.{IsPropagated}

pub propagated-reason : {e d : RenderError} → IsPropagated e d → reason_in d ≢ out_of_memory → reason_in d ≡ reason_in e
propagated-reason h other = ap reason_of (h.cause other)

pub propagated-refusal : (e d : RenderError) → IsPropagated e d → reason_in d ≢ out_of_memory → refusal_of d ≡ refusal_of e
propagated-refusal e d h other =
    ap (λ (r : Reason). record { reason = r; location = location_of d }) (propagated-reason h other)
    ∙ ap (λ (z : Location). record { reason = reason_in e; location = z }) (h.location other)

-- an error is propagated unchanged
pub propagated-itself : (e : RenderError) → IsPropagated e e
propagated-itself e = record { location = λ _. refl; cause = λ _. refl; memory = λ memory. memory }

pub fails-propagated : (p : Setting) {A : Type 0} (m : Prog A) {s : State} (e d : RenderError) → IsPropagated e d
    → (reason_in e ≢ out_of_memory → ValueFails p m s (refusal_of e))
    → reason_in d ≢ out_of_memory → ValueFails p m s (refusal_of d)
fails-propagated p m {s = s} e d h is other = subst (λ (r : Refusal). ValueFails p m s r) (sym (propagated-refusal e d h other))
    (is (λ memory. other (h.memory memory)))

-- an answer fails, and its refusal is propagated
pub yields-propagated : {A : Type 0} (m : Asks A) (e d : RenderError) → IsPropagated e d
    → (reason_in e ≢ out_of_memory → m (fails (refusal_of e))) → reason_in d ≢ out_of_memory → m (fails (refusal_of d))
yields-propagated m e d h is other = subst (λ (r : Refusal). m (fails r)) (sym (propagated-refusal e d h other))
    (is (λ memory. other (h.memory memory)))
