-- How the values of calls compose.
use Rattle.std.proofs.Common.{◌≡◌, ◌++◌, ℕ, ◌+◌, ◌<◌, ◌≤◌, List, [], ◌∷◌, length, drop, get_or, Bool, false, Option, Result, Ok, Err, String, Global, rules, refl, sym, ap, ◌∙◌, subst, append_assoc, append-nil}
use Rattle.std.specs.Prelude.{IsErrAnd, MatchResult}
use Rattle.std.proofs.lemmas.List.{drop_more, drop_all}
use Rattle.std.specs.String.{string_bytes}
use Rattle.serde_json.specs.Data.{string}
use Rattle.serde_json.specs.View.{view}
use Rattle.serde_json.specs.declared.value.Value as json
use Rattle.serde_json.specs.declared.value.Value.{the_lemmas}
use Rattle.handlebars_base.specs.Answers.{Answer, gives, fails, Answers, answer_map}
use Rattle.handlebars_base.specs.Bytes.{Text}
use Rattle.handlebars_base.specs.PathAndData.{PathAndData}
use Rattle.handlebars_base.specs.Reasons.{Refusal}
use Rattle.handlebars_base.specs.declared.error.render_error.RenderError.{RenderError}
use Rattle.handlebars_base.specs.Scoped.{Found}
use Rattle.handlebars_template.specs.Tree.{as_name, args, Call, call, call_args, call_binding, call_name, escaped_expression, Param, Params, param, Hash, no_hash, hash_pair}
use Rattle.handlebars_template.specs.TreeView.{element_view, param_view, params_view, subexpression_view}
use Rattle.handlebars_template.specs.declared.template.tree.Parameter.{Parameter}
use Rattle.handlebars_template.specs.declared.template.tree.Subexpression.{Subexpression, out-Subexpression}
use Rattle.handlebars_template.specs.declared.template.tree.BlockParam as tree
use Rattle.handlebars_helpers.specs.CallView.{HelperView}
use Rattle.handlebars_helpers.specs.Callee.{Callee}
use Rattle.handlebars_semantics.specs.Asks.{Asks, Then, ◌>>=◌, goes_on, first_fails}
use Rattle.handlebars_semantics.specs.State.{Setting, State, helper_for}
use Rattle.handlebars_semantics.specs.Values.{is_literal, as_written, view_without_bodies, HasHelpedValue, HasRegisteredValue, HasInnerValue, HasView, HasWrittenValue, HaveValues, HashHasValues}
use Rattle.handlebars_expand.specs.Boxed.{answer_of, error_of}
use Rattle.handlebars_expand.specs.View.{Yields}
use Rattle.handlebars_expand.specs.declared.boxed.BoxedError.{BoxedError}

pub subexpression_view-out : (s : Subexpression)
    → subexpression_view s ≡ element_view (out-Subexpression s).element.value
subexpression_view-out s = search (rules, tree.the_lemmas)

pub view-String : (s : String Global) → view (json.String s) ≡ string (string_bytes s)
view-String s = search (rules, the_lemmas)

-- parameters from an index on
pub params-here : (qs : List Parameter) (i : ℕ) (q : Parameter) → i < length qs → q ≡ get_or qs i q
    → params_view (drop i qs) ≡ param (param_view q) (params_view (drop (i + 1) qs))
params-here qs i q lt is = ap params_view (drop_more qs i q lt)
    ∙ ap (λ (z : Parameter). param (param_view z) (params_view (drop (i + 1) qs))) (sym is)

pub params-past : (qs : List Parameter) (i : ℕ) → length qs ≤ i → params_view (drop i qs) ≡ params_view []
params-past qs i over = ap params_view (drop_all i qs over)

-- ---- what calls guarantee

-- an error that `?` propagates
pub propagated : {T : Type 0} (P : T → Type 0) (Q : RenderError → Type 0) (r : Result T BoxedError) (e : BoxedError)
    → IsErrAnd r (λ d. d ≡ e) → Q (error_of e) → MatchResult (answer_of r) P Q
propagated P Q (Ok x) e is h = absurd is
propagated P Q (Err d) e is h = subst (λ (z : BoxedError). Q (error_of z)) (sym is) h

-- an answer that is known
pub yields-answer : {T A : Type 0} (seen : T → A) (a : Answer A) (r : Result T RenderError) → Answers seen r a
    → Yields (λ b. b ≡ a) seen r
yields-answer seen a (Ok x) is = sym is
yields-answer seen a (Err e) is = λ other. sym (is other)

-- what is asked after a value
pub yields-then : {T A B : Type 0} (seen : T → B) (first : Asks A) (next : A → Asks B) {x : A}
    (r : Result T RenderError) → first (gives x) → Yields (next x) seen r → Yields (Then first next) seen r
yields-then seen first next (Ok y) g is = goes_on g is
yields-then seen first next (Err e) g is = λ other. goes_on g (is other)

-- ---- calls in parentheses

module _ (p : Setting) (s : State) (v : HelperView) where
  -- the value for an equal view and an equal callee
  pub yields-for : {T : Type 0} (seen : T → Found) (k : Callee) {j : Callee} {w : HelperView} (r : Result T RenderError)
      → j ≡ k → w ≡ v → Yields (HasRegisteredValue p s j w) seen r → Yields (HasRegisteredValue p s k v) seen r
  yields-for seen k {w = w} r is same y =
      subst (λ (z : HelperView). Yields (HasRegisteredValue p s k z) seen r) same
      (subst (λ (z : Callee). Yields (HasRegisteredValue p s z w) seen r) is y)

-- What `HasInnerValue` says of a call, by the parts of the call.
pub inner_value-parts : (p : Setting) (s : State) (c : Call) {a : Answer Found}
    → (HasView p s (call_name c) (call_args c) >>= (λ v. HasHelpedValue p s
    (helper_for p.parts s false v.name) (view_without_bodies (call_binding c) v))) a
    → HasInnerValue p s (escaped_expression c) a
inner_value-parts p s (call n (args ps hs) b t marks) h = h

pub yields-inner_value : {T : Type 0} (seen : T → Found) (p : Setting) (s : State) (c : Call) (r : Result T RenderError)
    → Yields (HasView p s (call_name c) (call_args c) >>= (λ v. HasHelpedValue p s
    (helper_for p.parts s false v.name) (view_without_bodies (call_binding c) v))) seen r
    → Yields (HasInnerValue p s (escaped_expression c)) seen r
yields-inner_value seen p s c (Ok x) h = inner_value-parts p s c h
yields-inner_value seen p s c (Err e) h = λ other. inner_value-parts p s c (h other)

-- ---- parameters from an index on

module _ (p : Setting) (s : State) where
  -- What the rest yields, the whole yields after the values so far. Where the rest fails, the whole fails.
  pub record ParamsLeft (all left : Params) (so_far : List PathAndData) : Type 0 where
    pub so : (a : Answer (List PathAndData)) → HaveValues p s left a → HaveValues p s all (answer_map (λ vs. so_far ++ vs) a)

  pub params-end : (all : Params) {left : Params} {so_far : List PathAndData} → left ≡ params_view []
      → ParamsLeft all left so_far → HaveValues p s all (gives so_far)
  params-end all {so_far = so_far} is x =
      subst (λ (z : List PathAndData). HaveValues p s all (gives z)) (append-nil so_far)
      (x.so (gives []) (subst (λ (z : Params). HaveValues p s z (gives [])) (sym is) refl))

  module _ (all : Params) {left rest : Params} {q : Param} {so_far : List PathAndData} (here : left ≡ param q rest)
      (x : ParamsLeft all left so_far) where
    pub params-go : (d : PathAndData) → HasWrittenValue p s q (gives d) → ParamsLeft all rest (so_far ++ d ∷ [])
    params-go d g = record { so = step }
      where
        step : (a : Answer (List PathAndData)) → HaveValues p s rest a
            → HaveValues p s all (answer_map (λ vs. (so_far ++ d ∷ []) ++ vs) a)
        step (gives vs) more =
            subst (λ (z : List PathAndData). HaveValues p s all (gives z)) (sym (append_assoc so_far (d ∷ []) vs))
            (x.so (gives (d ∷ vs)) (subst (λ (z : Params). HaveValues p s z (gives (d ∷ vs))) (sym here)
            (goes_on g (goes_on more refl))))
        step (fails r) more =
            x.so (fails r) (subst (λ (z : Params). HaveValues p s z (fails r)) (sym here) (goes_on g (first_fails more)))

    pub params-over : {r : Refusal} → HasWrittenValue p s q (fails r) → HaveValues p s all (fails r)
    params-over {r = r} n =
        x.so (fails r) (subst (λ (z : Params). HaveValues p s z (fails r)) (sym here) (first_fails n))

  -- the same for hash arguments
  pub record HashLeft (all left : Hash) (so_far : List (Text × PathAndData)) : Type 0 where
    pub so : (a : Answer (List (Text × PathAndData))) → HashHasValues p s left a → HashHasValues p s all (answer_map (λ vs. so_far ++ vs) a)

  pub hash-end : (all : Hash) {left : Hash} {so_far : List (Text × PathAndData)} → left ≡ no_hash
      → HashLeft all left so_far → HashHasValues p s all (gives so_far)
  hash-end all {so_far = so_far} is x =
      subst (λ (z : List (Text × PathAndData)). HashHasValues p s all (gives z)) (append-nil so_far)
      (x.so (gives []) (subst (λ (z : Hash). HashHasValues p s z (gives [])) (sym is) refl))

  module _ (all : Hash) {left rest : Hash} {key : Text} {q : Param} {so_far : List (Text × PathAndData)}
      (here : left ≡ hash_pair key q rest) (x : HashLeft all left so_far) where
    pub hash-go : (d : PathAndData) → HasWrittenValue p s q (gives d) → HashLeft all rest (so_far ++ (key, d) ∷ [])
    hash-go d g = record { so = step }
      where
        step : (a : Answer (List (Text × PathAndData))) → HashHasValues p s rest a
            → HashHasValues p s all (answer_map (λ vs. (so_far ++ (key, d) ∷ []) ++ vs) a)
        step (gives vs) more =
            subst (λ (z : List (Text × PathAndData)). HashHasValues p s all (gives z))
            (sym (append_assoc so_far ((key, d) ∷ []) vs))
            (x.so (gives ((key, d) ∷ vs)) (subst (λ (z : Hash). HashHasValues p s z (gives ((key, d) ∷ vs))) (sym here)
            (goes_on g (goes_on more refl))))
        step (fails r) more =
            x.so (fails r) (subst (λ (z : Hash). HashHasValues p s z (fails r)) (sym here) (goes_on g (first_fails more)))

    pub hash-over : {r : Refusal} → HasWrittenValue p s q (fails r) → HashHasValues p s all (fails r)
    hash-over {r = r} n =
        x.so (fails r) (subst (λ (z : Hash). HashHasValues p s z (fails r)) (sym here) (first_fails n))

-- ---- a parameter as it is written

pub written-as : (q : Param) (found : Found) (path : Option Text) (constant : Bool) (d : PathAndData)
    → d ≡ record { relative_path = path; found = found; is_constant = constant } → path ≡ as_name q
    → constant ≡ is_literal q → d ≡ as_written q found
written-as q found path constant d is same literal = is ∙ rw (same, literal) refl
