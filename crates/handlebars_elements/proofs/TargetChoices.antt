-- What the targets of calls choose, by what they are dispatched to.
use Rattle.std.proofs.Common.{◌≡◌, ◌≢◌, ◌++◌, Bool, not, List, map, Option, Some, None, is_some, Result, Ok, Err, refl, sym, ap, ◌∙◌, subst}
use Rattle.std.specs.Prelude.{unwrap_or}
use Rattle.serde_json.specs.Data.{Data}
use Rattle.handlebars_base.specs.Answers.{Answer, gives, fails}
use Rattle.handlebars_base.specs.Bytes.{Text}
use Rattle.handlebars_base.specs.Reasons.{Refusal, out_of_memory}
use Rattle.handlebars_base.specs.RenderRefusals.{reason_in, refusal_of}
use Rattle.handlebars_base.specs.declared.error.render_error.RenderError.{RenderError}
use Rattle.handlebars_template.specs.Tree.{Call, call_args}
use Rattle.handlebars_template.specs.TreeView.{body_view, call_view}
use Rattle.handlebars_template.specs.declared.template.tree.HelperTemplate.{HelperTemplate, out-HelperTemplate}
use Rattle.handlebars_template.specs.declared.template.tree.Template.{Template}
use Rattle.handlebars_template.proofs.Levels.{call_body-view, call_inverse-view}
use Rattle.handlebars_helpers.specs.CallView.{CallView, HelperView, plain_value, with_constants}
use Rattle.handlebars_helpers.specs.Callee.{Callee, built, user}
use Rattle.handlebars_helpers.specs.Choice.{BuiltInKind, Choice, built_in_choice, lacks}
use Rattle.handlebars_semantics.specs.Asks.{only, goes_on, first_fails, ◌>>=◌}
use Rattle.handlebars_semantics.specs.Execute.{view_with_bodies}
use Rattle.handlebars_semantics.specs.Questions.{HasRegisteredChoice}
use Rattle.handlebars_semantics.specs.State.{Setting, State}
use Rattle.handlebars_expand.specs.Bound.{dispatch}
use Rattle.handlebars_expand.specs.Targets.{target_in}
use Rattle.handlebars_expand.specs.View.{Yields, name_alone}
use Rattle.handlebars_expand.specs.declared.registered.Target as declared
use Rattle.handlebars_expand.proofs.BoundCalls.{chooses-bound, fails-bound}
use Rattle.handlebars_values.specs.BuiltIn.{AsksFor, HasBuiltInChoice, Passed, passing}
use Rattle.handlebars_values.specs.declared.built_in.Asked.{Asked}
use Rattle.handlebars_elements.specs.Chosen.{FailsFor, HasCalleeChoice, HasTargetChoice, IsViewedAs, fails_viewing}

module _ (p : Setting) (s : State) (block : Bool) (c : Call) (t : Text) where
  -- a view of the call has its name
  pub viewed-name : (v : CallView) → IsViewedAs p s c t (gives v) → v.name ≡ t
  viewed-name v (goes_on is (goes_on vs (goes_on ws same))) = cc

  -- The target calls this callee for a call by this name, with these constants. The callee may be one by the name of the call.
  abbrev pub IsDispatched : Text → declared.Target → (Text → Callee) → List Data → Type 0
  IsDispatched name k callee cs = (h : HelperView) → h.call.name ≡ name
      → dispatch p.parts s.local (target_in block name k) h ≡ gives (callee h.call.name, with_constants cs h)

  chosen-by : (k : declared.Target) (callee : Text → Callee) (cs : List Data) (a : Answer Choice) → IsDispatched t k callee cs
      → HasCalleeChoice p s block c t (callee t) cs a → HasTargetChoice p s block c t (target_in block t k) a
  chosen-by k callee cs a is (goes_on {x = v} viewed has) =
      let h = view_with_bodies block c v in
      let same = viewed-name v viewed in
      goes_on viewed (chooses-bound p s (target_in block t k) h (callee v.name, with_constants cs h) (is h same) a
      (subst (λ (z : Text). HasRegisteredChoice p s (callee z) (with_constants cs h) a) (sym same) has))
  chosen-by k callee cs a is (first_fails viewed) = first_fails viewed

  by-name : (name : Text) (k : declared.Target) (callee : Text → Callee) (cs : List Data) → name ≡ t → IsDispatched name k callee cs
      → IsDispatched t k callee cs
  by-name name k callee cs same is = subst (λ (z : Text). IsDispatched z k callee cs) same is

  -- what the callee chooses, the target chooses
  pub yields-callee : {T : Type 0} (seen : T → Choice) (name : Text) (k : declared.Target) (callee : Text → Callee) (cs : List Data)
      (r : Result T RenderError) → name ≡ t → IsDispatched name k callee cs
      → Yields (HasCalleeChoice p s block c t (callee t) cs) seen r → Yields (HasTargetChoice p s block c t (target_in block t k)) seen r
  yields-callee seen name k callee cs (Ok x) same is has =
      chosen-by k callee cs (gives (seen x)) (by-name name k callee cs same is) has
  yields-callee seen name k callee cs (Err e) same is has = λ other.
      chosen-by k callee cs (fails (refusal_of e)) (by-name name k callee cs same is) (has other)

  chosen-built : (kind : BuiltInKind) (cs : List Data) (a : Answer Choice)
      → HasBuiltInChoice p s kind cs (call_args c) (view_with_bodies block c (name_alone t)) a
      → HasCalleeChoice p s block c t (built kind) cs a
  chosen-built kind cs a (goes_on {x = passed} (goes_on {x = vs} values (goes_on {x = ws} hash is)) chosen) =
      let same : passed ≡ (map plain_value cs ++ vs, ws) = cc in
      goes_on (goes_on {x = t} refl (goes_on values (goes_on hash refl)))
      (chosen ∙ ap (λ (z : Passed). built_in_choice p.parts.strict kind (passing (view_with_bodies block c (name_alone t)) z)) same)
  chosen-built kind cs a (first_fails (first_fails values)) = first_fails (goes_on {x = t} refl (first_fails values))
  chosen-built kind cs a (first_fails (goes_on values (first_fails hash))) =
      first_fails (goes_on {x = t} refl (goes_on values (first_fails hash)))
  chosen-built kind cs a (first_fails (goes_on values (goes_on hash is))) = cc

  -- what a built-in helper chooses, the target that calls it chooses
  pub yields-built : {T : Type 0} (seen : T → Choice) (name : Text) (k : declared.Target) (kind : BuiltInKind) (cs : List Data)
      (r : Result T RenderError) → name ≡ t → IsDispatched name k (λ _. built kind) cs
      → Yields (HasBuiltInChoice p s kind cs (call_args c) (view_with_bodies block c (name_alone t))) seen r
      → Yields (HasTargetChoice p s block c t (target_in block t k)) seen r
  yields-built seen name k kind cs (Ok x) same is has =
      chosen-by k (λ _. built kind) cs (gives (seen x)) (by-name name k (λ _. built kind) cs same is)
      (chosen-built kind cs (gives (seen x)) has)
  yields-built seen name k kind cs (Err e) same is has = λ other.
      chosen-by k (λ _. built kind) cs (fails (refusal_of e)) (by-name name k (λ _. built kind) cs same is)
      (chosen-built kind cs (fails (refusal_of e)) (has other))

  -- The target has no callee for a call by this name: it fails with this error, unless that is out of memory.
  abbrev pub IsUndispatched : Text → declared.Target → RenderError → Type 0
  IsUndispatched name k own = (h : HelperView) → h.call.name ≡ name → reason_in own ≢ out_of_memory
      → dispatch p.parts s.local (target_in block name k) h ≡ fails (refusal_of own)

  fails-undispatched : (k : declared.Target) (own : RenderError) (r : Refusal) → r.reason ≢ out_of_memory → IsUndispatched t k own
      → (IsViewedAs p s c t >>= (λ v. only (fails_viewing (refusal_of own)))) (fails r)
      → HasTargetChoice p s block c t (target_in block t k) (fails r)
  fails-undispatched k own r other is (goes_on {x = v} viewed failed) =
      let same : r ≡ refusal_of own = cc in
      let memory = subst (λ (z : Refusal). z.reason ≢ out_of_memory) same other in
      let h = view_with_bodies block c v in
      goes_on viewed (fails-bound p s (target_in block t k) h r
      (is h (viewed-name v viewed) memory ∙ ap (λ (z : Refusal). fails z) (sym same)))
  fails-undispatched k own r other is (first_fails viewed) = first_fails viewed

  -- the error of a target that has no callee
  pub target-fails : (name : Text) (k : declared.Target) (own e : RenderError) → name ≡ t → IsUndispatched name k own
      → FailsFor p s c t own e → reason_in e ≢ out_of_memory → HasTargetChoice p s block c t (target_in block t k) (fails (refusal_of e))
  target-fails name k own e same is failed other =
      fails-undispatched k own (refusal_of e) other (subst (λ (z : Text). IsUndispatched z k own) same is) (failed other)

  -- ---- user-defined helpers

  asked-with : (v w : CallView) (cs : List Data) → w ≡ record v { params = map plain_value cs ++ v.params }
      → (h : HelperView) → h ≡ view_with_bodies block c w → h ≡ with_constants cs (view_with_bodies block c v)
  asked-with v w cs is h same = same ∙ ap (view_with_bodies block c) is

  asked-as : (v : CallView) (cs : List Data) (h : HelperView) (o : Option Text) (name : Text) → v.name ≡ t
      → h ≡ with_constants cs (view_with_bodies block c v) → name ≡ unwrap_or o h.call.name → name ≡ unwrap_or o t
  asked-as v cs h o name same is named =
      named ∙ ap (λ (z : HelperView). unwrap_or o z.call.name) is ∙ ap (unwrap_or o) same

  chosen-asked : (v : CallView) (cs : List Data) (h : HelperView) (o : Option Text) (name : Text) (a : Answer Choice)
      → IsViewedAs p s c t (gives v) → h ≡ with_constants cs (view_with_bodies block c v) → name ≡ unwrap_or o h.call.name
      → HasRegisteredChoice p s (user name) h a → HasCalleeChoice p s block c t (user (unwrap_or o t)) cs a
  chosen-asked v cs h o name a viewed is named has =
      goes_on viewed (subst (λ (z : HelperView). HasRegisteredChoice p s (user (unwrap_or o t)) z a) is
      (subst (λ (z : Text). HasRegisteredChoice p s (user z) h a) (asked-as v cs h o name (viewed-name v viewed) is named) has))

  -- what the helper chooses that is asked by a name, or else by the name of the call
  pub yields-asked : {T : Type 0} (seen : T → Choice) (v w : CallView) (cs : List Data) (h : HelperView) (o : Option Text) (name : Text)
      (r : Result T RenderError) → IsViewedAs p s c t (gives v) → w ≡ record v { params = map plain_value cs ++ v.params }
      → h ≡ view_with_bodies block c w → name ≡ unwrap_or o h.call.name
      → Yields (HasRegisteredChoice p s (user name) h) seen r → Yields (HasCalleeChoice p s block c t (user (unwrap_or o t)) cs) seen r
  yields-asked seen v w cs h o name (Ok x) viewed passed shown named has =
      chosen-asked v cs h o name (gives (seen x)) viewed (asked-with v w cs passed h shown) named has
  yields-asked seen v w cs h o name (Err e) viewed passed shown named has = λ other.
      chosen-asked v cs h o name (fails (refusal_of e)) viewed (asked-with v w cs passed h shown) named (has other)

-- ---- bodies

lacks-view : (o : Option Template) → lacks (body_view o) ≡ not (is_some o)
lacks-view None = refl
lacks-view (Some t) = refl

-- whether a call has a body and an inverse, as the code says
pub asks-for : (block : Bool) (h : HelperTemplate) (v : CallView) (a : Asked) → a.has_body ≡ is_some (out-HelperTemplate h).template
    → a.has_inverse ≡ is_some (out-HelperTemplate h).inverse → AsksFor a (view_with_bodies block (call_view h) v)
asks-for block h v a body inverse = record {
  body = ap lacks (call_body-view h) ∙ lacks-view (out-HelperTemplate h).template ∙ ap not (sym body);
  inverse = ap lacks (call_inverse-view h) ∙ lacks-view (out-HelperTemplate h).inverse ∙ ap not (sym inverse);
}
