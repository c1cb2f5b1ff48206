-- The values of calls in parentheses, by what they are dispatched to.
use Rattle.std.proofs.Common.{◌≡◌, ◌≢◌, ◌++◌, List, [], map, Option, Some, None, Result, Ok, Err, false, refl, sym, ap, ◌∙◌, subst}
use Rattle.serde_json.specs.Data.{Data}
use Rattle.handlebars_base.specs.Answers.{Answer, Answers, answer_map, gives, fails}
use Rattle.handlebars_base.specs.Bytes.{Text}
use Rattle.handlebars_base.specs.PathAndData.{PathAndData}
use Rattle.handlebars_base.specs.Reasons.{Refusal, helper_not_found, out_of_memory}
use Rattle.handlebars_base.specs.RenderRefusals.{plain_refusal, reason_in, refusal_of}
use Rattle.handlebars_base.specs.Scoped.{Found}
use Rattle.handlebars_base.specs.declared.error.render_error.RenderError.{RenderError}
use Rattle.handlebars_template.specs.Tree.{Args, Binding, args_hash, args_params}
use Rattle.handlebars_helpers.specs.CallView.{CallView, HelperView, plain_value, with_constants}
use Rattle.handlebars_helpers.specs.Callee.{Callee, LocalHelper, Target, built, calls_local, calls_registered}
use Rattle.handlebars_helpers.specs.Choice.{BuiltInKind, Choice, built_in_choice}
use Rattle.handlebars_semantics.specs.Asks.{Asks, only, goes_on, first_fails, ◌>>=◌}
use Rattle.handlebars_semantics.specs.State.{Parts, Setting, State, helper_for, local_call}
use Rattle.handlebars_semantics.specs.Values.{HasHelpedValue, HasRegisteredValue, HashHasValues, HaveValues, choice_value, is_viewed, view_without_bodies}
use Rattle.handlebars_expand.specs.Bound.{dispatch}
use Rattle.handlebars_expand.specs.View.{Yields}
use Rattle.handlebars_expand.proofs.BoundCalls.{value-unbound}
use Rattle.handlebars_values.specs.BuiltIn.{HasBuiltInChoice, Passed, passing}
use Rattle.handlebars_values.specs.Dispatch.{HasValueOf, dispatched_of}
use Rattle.handlebars_values.specs.declared.dispatch.Dispatched.{Dispatched}

abbrev no_value : (A : Type 0) → Refusal → Answer A
no_value A r = fails r

gives≢fails : {A : Type 0} {x : A} {r : Refusal} → gives x ≡ no_value A r → ⊥
gives≢fails is = cc

-- ---- callees

-- a local helper that isn't there
pub local_call-gone : (parts : Parts) (o : Option LocalHelper) (name : Text) (h : HelperView) (r : Refusal) → None ≡ o
    → r ≡ plain_refusal (helper_not_found name) → local_call parts o name h ≡ fails r
local_call-gone parts o name h r is same = subst (λ (z : Option LocalHelper). local_call parts z name h ≡ fails r) is
    (ap (λ (z : Refusal). fails z) (sym same))

module _ (p : Setting) (s : State) where
  value-of : (k : Target) (h : HelperView) (x : Callee × HelperView) (a : Answer Found) → dispatch p.parts s.local k h ≡ gives x
      → HasRegisteredValue p s x.0 x.1 a → HasHelpedValue p s (Some k) h a
  value-of (calls_registered k) h x a is has =
      let same : x ≡ (k, h) = cc in subst (λ (z : Callee × HelperView). HasRegisteredValue p s z.0 z.1 a) same has
  value-of (calls_local name) h x a is has = goes_on (sym is) has

  -- what the callee of a target has, the call has
  pub value-of-target : (k : Target) (o : Option Target) (h : HelperView) (r : Result Dispatched RenderError) → Some k ≡ o
      → Answers (dispatched_of h) r (dispatch p.parts s.local k h) → HasValueOf p s o h r
  value-of-target k o h (Ok d) is goes = λ a has.
      subst (λ (z : Option Target). HasHelpedValue p s z h a) is (value-of k h (dispatched_of h d) a goes has)
  value-of-target k o h (Err e) is goes = λ other.
      subst (λ (z : Option Target). HasHelpedValue p s z h (fails (refusal_of e))) is (value-unbound p s k h (refusal_of e) (goes other))

  -- a name that has no target
  pub value-of-none : (o : Option Target) (h : HelperView) (e : RenderError) → None ≡ o
      → (reason_in e ≢ out_of_memory → refusal_of e ≡ plain_refusal (helper_not_found h.call.name)) → HasValueOf p s o h (Err e)
  value-of-none o h e is same = λ other.
      subst (λ (z : Option Target). HasHelpedValue p s z h (fails (refusal_of e))) is (ap (λ (z : Refusal). fails z) (same other))

-- ---- views by a name that is known

module _ (t : Text) (values : Asks (List PathAndData)) (hash : Asks (List (Text × PathAndData))) where
  viewed-name : (v : CallView) → is_viewed (only (gives t)) values hash (gives v) → v.name ≡ t
  viewed-name v (goes_on is (goes_on vs (goes_on ws same))) = cc

  pub viewed-by : (named : Asks Text) (a : Answer CallView) → named (gives t) → is_viewed (only (gives t)) values hash a
      → is_viewed named values hash a
  viewed-by named a has (goes_on {x = x} is rest) =
      let same : t ≡ x = cc in goes_on (subst (λ z. named (gives z)) same has) rest
  viewed-by named a has (first_fails is) = absurd (gives≢fails (sym is))

  module _ (p : Setting) (s : State) (b : Binding) (named : Asks Text) (has : named (gives t)) where
    -- the value of the callee is that of the call
    value-dispatched : (d : Dispatched) (a : Answer Found)
        → ((h : HelperView) → h.call.name ≡ t → HasValueOf p s (helper_for p.parts s false t) h (Ok d))
        → (is_viewed (only (gives t)) values hash
        >>= (λ v. HasRegisteredValue p s (dispatched_of (view_without_bodies b v) d).0 (dispatched_of (view_without_bodies b v) d).1)) a
        → (is_viewed named values hash >>= (λ v. HasHelpedValue p s (helper_for p.parts s false v.name) (view_without_bodies b v))) a
    value-dispatched d a of (goes_on {x = v} viewed value) =
        let same = viewed-name v viewed in
        goes_on (viewed-by named (gives v) has viewed)
        (subst (λ z. HasHelpedValue p s (helper_for p.parts s false z) (view_without_bodies b v) a) (sym same)
        (of (view_without_bodies b v) same a value))
    value-dispatched d a of (first_fails {r = r} viewed) = first_fails (viewed-by named (fails r) has viewed)

    pub yields-dispatched : {T : Type 0} (seen : T → Found) (d : Dispatched) (r : Result T RenderError)
        → ((h : HelperView) → h.call.name ≡ t → HasValueOf p s (helper_for p.parts s false t) h (Ok d))
        → Yields (is_viewed (only (gives t)) values hash
        >>= (λ v. HasRegisteredValue p s (dispatched_of (view_without_bodies b v) d).0 (dispatched_of (view_without_bodies b v) d).1)) seen r
        → Yields (is_viewed named values hash
        >>= (λ v. HasHelpedValue p s (helper_for p.parts s false v.name) (view_without_bodies b v))) seen r
    yields-dispatched seen d (Ok x) of y = value-dispatched d (gives (seen x)) of y
    yields-dispatched seen d (Err e) of y = λ other. value-dispatched d (fails (refusal_of e)) of (y other)

    -- the error of a call that has no callee
    value-undispatched : (own : RenderError) (r : Refusal) → r.reason ≢ out_of_memory
        → ((h : HelperView) → h.call.name ≡ t → HasValueOf p s (helper_for p.parts s false t) h (Err own))
        → (is_viewed (only (gives t)) values hash >>= (λ v. only (no_value Found (refusal_of own)))) (fails r)
        → (is_viewed named values hash
        >>= (λ v. HasHelpedValue p s (helper_for p.parts s false v.name) (view_without_bodies b v))) (fails r)
    value-undispatched own r other of (goes_on {x = v} viewed is) =
        let same : r ≡ refusal_of own = cc in
        let memory = subst (λ (z : Refusal). z.reason ≢ out_of_memory) same other in
        let name = viewed-name v viewed in
        goes_on (viewed-by named (gives v) has viewed)
        (subst (λ z. HasHelpedValue p s (helper_for p.parts s false z) (view_without_bodies b v) (fails r)) (sym name)
        (subst (λ (z : Refusal). HasHelpedValue p s (helper_for p.parts s false t) (view_without_bodies b v) (fails z)) (sym same)
        (of (view_without_bodies b v) name memory)))
    value-undispatched own r other of (first_fails viewed) = first_fails (viewed-by named (fails r) has viewed)

    nothing-undispatched : (own : RenderError) (x : Found)
        → (is_viewed (only (gives t)) values hash >>= (λ v. only (no_value Found (refusal_of own)))) (gives x) → ⊥
    nothing-undispatched own x (goes_on viewed is) = gives≢fails is

    pub yields-undispatched : {T : Type 0} (seen : T → Found) (own : RenderError) (r : Result T RenderError)
        → ((h : HelperView) → h.call.name ≡ t → HasValueOf p s (helper_for p.parts s false t) h (Err own))
        → Yields (is_viewed (only (gives t)) values hash >>= (λ v. only (no_value Found (refusal_of own)))) seen r
        → Yields (is_viewed named values hash
        >>= (λ v. HasHelpedValue p s (helper_for p.parts s false v.name) (view_without_bodies b v))) seen r
    yields-undispatched seen own (Ok x) of y = absurd (nothing-undispatched own (seen x) y)
    yields-undispatched seen own (Err e) of y = λ other. value-undispatched own (refusal_of e) other of (y other)

-- ---- built-in helpers

module _ (p : Setting) (s : State) (kind : BuiltInKind) (constants : List Data) (xs : Args) (b : Binding) (t : Text) where
  -- a view with nothing but the name, to which what is passed is added
  abbrev pub named_alone : HelperView
  named_alone = view_without_bodies b (record { name = t; params = []; hash = [] })

  pub value-built : (a : Answer Choice) → HasBuiltInChoice p s kind constants xs named_alone a
      → (is_viewed (only (gives t)) (HaveValues p s (args_params xs)) (HashHasValues p s (args_hash xs))
      >>= (λ v. HasRegisteredValue p s (built kind) (with_constants constants (view_without_bodies b v)))) (answer_map choice_value a)
  value-built a (goes_on {x = passed} (goes_on {x = vs} values (goes_on {x = ws} hash is)) chosen) =
      let same : passed ≡ (map plain_value constants ++ vs, ws) = cc in
      goes_on (goes_on {x = t} refl (goes_on values (goes_on hash refl)))
      (ap (answer_map choice_value) (chosen ∙ ap (λ (z : Passed). built_in_choice p.parts.strict kind (passing named_alone z)) same))
  value-built a (first_fails (first_fails values)) = first_fails (goes_on {x = t} refl (first_fails values))
  value-built a (first_fails (goes_on values (first_fails hash))) =
      first_fails (goes_on {x = t} refl (goes_on values (first_fails hash)))
  value-built a (first_fails (goes_on values (goes_on hash is))) = absurd (gives≢fails (sym is))
