-- What paths lead to in the state of a run.
use Rattle.std.proofs.Common.{◌≡◌, Option, None, Some, Result, Ok, Err, refl, ap, ◌∙◌, subst}
use Rattle.std.specs.Prelude.{Bool, IsErrAnd, List, unwrap_or}
use Rattle.serde_json.specs.Data.{Data}
use Rattle.handlebars_base.specs.Answers.{Answer, Answers, answer_map, fails, gives}
use Rattle.handlebars_base.specs.Path.{Reference}
use Rattle.handlebars_base.specs.Reasons.{Refusal, out_of_memory}
use Rattle.handlebars_base.specs.RenderRefusals.{reason_in}
use Rattle.handlebars_base.specs.Scoped.{Found, present_in}
use Rattle.handlebars_base.specs.declared.error.render_error.RenderError.{RenderError}
use Rattle.handlebars_scope.specs.Resolve.{resolve}
use Rattle.handlebars_scope.specs.Scopes.{Frame}
use Rattle.handlebars_semantics.specs.Asks.{only}
use Rattle.handlebars_semantics.specs.State.{Setting, State}
use Rattle.handlebars_semantics.specs.Values.{as_read, path_value, without_path}
use Rattle.handlebars_expand.specs.Boxed.{answer_of, error_of}
use Rattle.handlebars_expand.specs.View.{Yields}
use Rattle.handlebars_expand.specs.declared.boxed.BoxedError.{BoxedError}
use Rattle.handlebars_expand.proofs.Values.{yields-answer}
use Rattle.handlebars_layers.specs.Chain.{Chain, frames}
use Rattle.handlebars_layers.specs.Destination.{IsDestination}
use Rattle.handlebars_layers.specs.ScopeFrames.{ByDepth, scope_frames}
use Rattle.handlebars_layers.specs.declared.destination.Destination.{Destination}
use Rattle.handlebars_layers.specs.declared.destination.Destination.TheVariants.{Node, Value, Nothing, NoIndex}
use Rattle.handlebars_layers.proofs.ScopeFrames.{ignore-partials}
use Rattle.handlebars_values.specs.Judgement.{IsNodeOf}

-- Partials are no scope, so paths are resolved in the frames of the layers alone.
module _ (p : Setting) (s : State) (at : ByDepth) (layers : Chain) (r : Reference) (here : s.blocks ≡ scope_frames at layers) where
  pub read-given : s.changed ≡ None → path_value p s r ≡ resolve s.recursive (frames layers) r p.given
  read-given none =
      ap (λ (c : Option Data). as_read c (resolve s.recursive s.blocks r (unwrap_or c p.given))) none
      ∙ ap (λ (fs : List Frame). resolve s.recursive fs r p.given) here ∙ ignore-partials at layers s.recursive r p.given

  pub read-changed : (d : Data) → s.changed ≡ Some d
      → path_value p s r ≡ answer_map without_path (resolve s.recursive (frames layers) r d)
  read-changed d is =
      ap (λ (c : Option Data). as_read c (resolve s.recursive s.blocks r (unwrap_or c p.given))) is
      ∙ ap (λ (fs : List Frame). answer_map without_path (resolve s.recursive fs r d)) here
      ∙ ap (answer_map without_path) (ignore-partials at layers s.recursive r d)

-- ---- frames and data that are the same

pub resolved-in : (recursive : Bool) (r : Reference) {fs gs : List Frame} {d e : Data} {a : Answer Found}
    → a ≡ resolve recursive fs r d → fs ≡ gs → d ≡ e → a ≡ resolve recursive gs r e
resolved-in recursive r {gs = gs} {d = d} is same_frames same_data =
    is ∙ ap (λ (hs : List Frame). resolve recursive hs r d) same_frames ∙ ap (resolve recursive gs r) same_data

pub present-in : (recursive : Bool) (r : Reference) {fs gs : List Frame} {d e : Data} {o : Answer (Option Data)}
    → o ≡ answer_map present_in (resolve recursive fs r d) → fs ≡ gs → d ≡ e → o ≡ answer_map present_in (resolve recursive gs r e)
present-in recursive r {gs = gs} {d = d} is same_frames same_data =
    is ∙ ap (λ (hs : List Frame). answer_map present_in (resolve recursive hs r d)) same_frames
    ∙ ap (λ z. answer_map present_in (resolve recursive gs r z)) same_data

-- an answer that is another one
pub yields-same : {T : Type 0} (seen : T → Found) (r : Result T RenderError) {a b : Answer Found} → a ≡ b → Answers seen r a
    → Yields (only b) seen r
yields-same seen r {b = b} same is = yields-answer seen b r (subst (λ (z : Answer Found). Answers seen r z) same is)

pub answers-out_of_memory : {T A : Type 0} (seen : T → A) (a : Answer A) (r : Result T BoxedError)
    → IsErrAnd r (λ e. reason_in (error_of e) ≡ out_of_memory) → Answers seen (answer_of r) a
answers-out_of_memory seen a (Ok x) is = absurd is
answers-out_of_memory seen a (Err e) is = λ other. absurd (other is)

-- ---- parts of answers

pub answers-map : {T A B : Type 0} (seen : T → A) (f : A → B) (a : Answer A) (r : Result T RenderError) → Answers seen r a
    → Answers (λ x. f (seen x)) r (answer_map f a)
answers-map seen f a (Ok x) is = ap (answer_map f) is
answers-map seen f a (Err e) is = λ other. ap (answer_map f) (is other)

-- the answer whose part is given, or that fails
pub answer_map-gives : {A B : Type 0} (f : A → B) (a : Answer A) (b : B) → answer_map f a ≡ gives b
    → (x : A) × (a ≡ gives x) × (f x ≡ b)
answer_map-gives f (gives x) b is = (x, refl, cc)
answer_map-gives f (fails r) b is = absurd cc

pub answer_map-fails : {A B : Type 0} (f : A → B) (a : Answer A) (r : Refusal) → answer_map f a ≡ fails r → a ≡ fails r
answer_map-fails f (gives x) r is = absurd cc
answer_map-fails f (fails q) r is = let same : q ≡ r = cc in ap (λ (z : Refusal). fails z) same

-- ---- values of the data that were found

pub destination-node : (a : Answer Found) (d : Destination) → IsDestination a d → IsNodeOf a d
destination-node a (Node v) is = is
destination-node a (Value v) is = tt
destination-node a Nothing is = tt
destination-node a (NoIndex name) is = tt
