-- What `inline` does, and an error that is passed on.
use Rattle.std.proofs.Common.{◌≡◌, ◌≢◌, [], ◌∷◌, Some, Result, Ok, Err, IsErrAnd, codes, sym, subst, ap, ◌∙◌}
use Rattle.serde_json.specs.Data.{Data, null, boolean, number, string, array, object}
use Rattle.handlebars_base.specs.Answers.{Answer, Answers, gives, fails}
use Rattle.handlebars_base.specs.Bytes.{Text}
use Rattle.handlebars_base.specs.Optional.{with_or}
use Rattle.handlebars_base.specs.PathAndData.{PathAndData}
use Rattle.handlebars_base.specs.Reasons.{Refusal, out_of_memory, param_not_found_for_index}
use Rattle.handlebars_base.specs.RenderRefusals.{plain_refusal, reason_in, refusal_of}
use Rattle.handlebars_base.specs.Scoped.{data_in}
use Rattle.handlebars_base.specs.declared.error.render_error.RenderError.{RenderError}
use Rattle.handlebars_template.specs.Tree.{Tree, Body, no_body, body}
use Rattle.handlebars_helpers.specs.CallView.{param_at}
use Rattle.handlebars_helpers.specs.Decoration.{DecoratorView, sets_partial, by_text, by_body, inline_actions}

text_in : Answer Text → Text
text_in (gives t) = t
text_in (fails r) = []

by_text-gives : {A : Type 0} (d : Data) (f : Text → Answer A) (t : Text) → by_text d (λ x. gives x) ≡ gives t
    → by_text d f ≡ f t
unfolding text_in
by_text-gives null f t is = cc
by_text-gives (boolean b) f t is = cc
by_text-gives (number n) f t is = cc
by_text-gives (string s) f t is = ap (λ a. f (text_in a)) is
by_text-gives (array ds) f t is = cc
by_text-gives (object ms) f t is = cc

refusal_in : Refusal → Answer Tree → Refusal
refusal_in q (gives t) = q
refusal_in q (fails r) = r

by_body-fails : {A : Type 0} (b : Body) (f : Tree → Answer A) (r : Refusal) → by_body b (λ t. gives t) ≡ fails r
    → by_body b f ≡ fails r
unfolding refusal_in
by_body-fails no_body f r is = ap (λ a. fails (refusal_in r a)) is
by_body-fails (body t) f r is = cc

-- a tag without a body, after a name
pub inline-fails : (v : DecoratorView) (p : PathAndData) (name : Text) (r : Refusal) → param_at 0 v.call ≡ Some p
    → by_text (data_in p.found) (λ t. gives t) ≡ gives name → by_body v.body (λ t. gives t) ≡ fails r
    → inline_actions v ≡ fails r
inline-fails v p name r first is_text lacks =
    ap (λ o. with_or o (λ q. by_text (data_in q.found) (λ n. by_body v.body (λ t. gives (sets_partial n ∷ []))))
    (fails (plain_refusal (param_not_found_for_index (codes "inline") 0)))) first
    ∙ by_text-gives (data_in p.found) (λ n. by_body v.body (λ t. gives (sets_partial n ∷ []))) name is_text
    ∙ by_body-fails v.body (λ t. gives (sets_partial name ∷ [])) r lacks

-- the error that a call returns is passed on unchanged
pub answers-propagated : {T A : Type 0} (seen : T → A) (a : Answer A) (r : Result T RenderError) (e : RenderError)
    → IsErrAnd r (λ d. d ≡ e) → (reason_in e ≢ out_of_memory → a ≡ fails (refusal_of e)) → Answers seen r a
answers-propagated seen a (Ok x) e is h = absurd is
answers-propagated seen a (Err d) e is h =
    subst (λ (z : RenderError). reason_in z ≢ out_of_memory → a ≡ fails (refusal_of z)) (sym is) h
