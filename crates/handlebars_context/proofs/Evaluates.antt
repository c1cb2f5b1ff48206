-- What a text leads to, as a path.
use Rattle.std.proofs.Common.{◌≡◌, ◌≢◌, Bool, List, Result, Ok, Err, sym, ap, ◌∙◌, subst}
use Rattle.std.specs.Prelude.{IsErrAnd, IfOk, IfErr}
use Rattle.serde_json.specs.Data.{Data}
use Rattle.handlebars_base.specs.Answers.{gives, fails, Answers}
use Rattle.handlebars_base.specs.Bytes.{Text}
use Rattle.handlebars_base.specs.Path.{Reference, IsPath}
use Rattle.handlebars_base.specs.Reasons.{Refusal, out_of_memory, invalid_json_path}
use Rattle.handlebars_base.specs.RenderRefusals.{plain_refusal, reason_in, refusal_of}
use Rattle.handlebars_base.specs.Scoped.{Found}
use Rattle.handlebars_base.specs.declared.error.render_error.RenderError.{RenderError}
use Rattle.handlebars_scope.specs.Resolve.{resolve}
use Rattle.handlebars_scope.specs.Scopes.{Frame}
use Rattle.handlebars_semantics.specs.Values.{Evaluates, leads, leads_nowhere}

module _ (recursive : Bool) (blocks : List Frame) (given : Data) (t : Text) where
  pub evaluates_nowhere : {T : Type 0} (r : Result T RenderError) (e : RenderError)
      → IsErrAnd r (λ d. d ≡ e)
      → (reason_in e ≢ out_of_memory → (refusal_of e ≡ plain_refusal (invalid_json_path t))
      × ((means : Reference) → IsPath t means → ⊥))
      → IfErr r (λ d. reason_in d ≢ out_of_memory → Evaluates recursive blocks given t (fails (refusal_of d)))
  evaluates_nowhere (Ok x) e is h = absurd is
  evaluates_nowhere (Err d) e is h = λ other.
      let k = h (λ memory. other (ap reason_in is ∙ memory)) in
      subst (λ (z : Refusal). Evaluates recursive blocks given t (fails z)) (sym (ap refusal_of is ∙ k.0))
      (leads_nowhere k.1)

  module _ {T : Type 0} (seen : T → Found) where
    pub evaluates_to : (r : Result T RenderError) (means : Reference) → IsPath t means
        → Answers seen r (resolve recursive blocks means given)
        → IfOk r (λ x. Evaluates recursive blocks given t (gives (seen x)))
    evaluates_to (Ok x) means path answer = leads path answer
    evaluates_to (Err e) means path answer = tt

    pub evaluation_failed : (r : Result T RenderError) (means : Reference) → IsPath t means
        → Answers seen r (resolve recursive blocks means given)
        → IfErr r (λ e. reason_in e ≢ out_of_memory → Evaluates recursive blocks given t (fails (refusal_of e)))
    evaluation_failed (Ok x) means path answer = tt
    evaluation_failed (Err e) means path answer = λ other. leads path (answer other)
