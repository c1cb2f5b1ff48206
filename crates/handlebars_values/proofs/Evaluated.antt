-- The values that a built-in helper is called with, evaluated one after the other.
use Rattle.std.proofs.Common.{◌≡◌, ◌++◌, ◌-◌, ℕ, suc, length, drop, map, List, [], ◌∷◌, Bor, Option, Some, None, option_map, Result, refl, sym, ap, ◌∙◌, subst, arith}
use Rattle.std.specs.Prelude.{slice_get}
use Rattle.std.specs.Slice.{IsItemAt}
use Rattle.std.proofs.lemmas.Option.{slice_get-map, slice_get_past, slice_get_read}
use Rattle.serde_json.specs.Data.{Data}
use Rattle.serde_json.specs.View.{view}
use Rattle.serde_json.specs.declared.value.Value.{Value}
use Rattle.handlebars_base.specs.Answers.{Answer, Answers, answer_map, gives, fails}
use Rattle.handlebars_base.specs.Bytes.{Text}
use Rattle.handlebars_base.specs.Optional.{with_or}
use Rattle.handlebars_base.specs.PathAndData.{PathAndData}
use Rattle.handlebars_base.specs.Reasons.{Refusal}
use Rattle.handlebars_base.specs.declared.error.render_error.RenderError.{RenderError}
use Rattle.handlebars_template.specs.Tree.{Hash, Params, as_name}
use Rattle.handlebars_template.specs.TreeView.{param_view, params_view}
use Rattle.handlebars_template.specs.declared.template.tree.Parameter.{Parameter}
use Rattle.handlebars_helpers.specs.CallView.{HelperView, plain_value}
use Rattle.handlebars_helpers.specs.Choice.{BuiltInKind, Choice, built_in_choice}
use Rattle.handlebars_semantics.specs.Asks.{Asks, only, ◌>>=◌, goes_on, first_fails}
use Rattle.handlebars_semantics.specs.State.{Setting, State}
use Rattle.handlebars_semantics.specs.Values.{HasWrittenValue, HashHasValues, HaveValues, as_written}
use Rattle.handlebars_expand.specs.View.{Yields}
use Rattle.handlebars_expand.proofs.Values.{ParamsLeft, yields-answer, yields-then}
use Rattle.handlebars_values.specs.BuiltIn.{HasConstantOr, HasParamValue, HasValueAt, Passed, passing, written_first}

abbrev no_answer : (A : Type 0) → Refusal → Answer A
no_answer A r = fails r

gives≢fails : {A : Type 0} {x : A} {r : Refusal} → gives x ≡ no_answer A r → ⊥
gives≢fails is = cc

none-left : (c : Data) (cs : List Data) → 1 - length (c ∷ cs) ≡ 0
none-left c cs = omega arith

none-left-of_two : (c d : Data) (cs : List Data) → 2 - length (c ∷ d ∷ cs) ≡ 0
none-left-of_two c d cs = omega arith

length-constants : (vs : List Value) → length vs ≡ length (map view vs)
length-constants [] = refl
length-constants (v ∷ vs) = ap suc (length-constants vs)

-- the index from which parameters are left after the first k values
pub from-constants : (k : ℕ) (vs : List Value) {n m : ℕ} → n ≡ k - m → m ≡ length vs → n ≡ k - length (map view vs)
from-constants k vs is same = is ∙ ap (λ (z : ℕ). k - z) (same ∙ length-constants vs)

-- ---- what is at an index

pub lookup-item : {X : Type 0} (xs : List X) (i : ℕ) (o : Option (Bor X)) → IsItemAt xs i o → slice_get xs i ≡ option_map (λ x. x.now) o
lookup-item xs i None is = slice_get_past xs i is.3
lookup-item xs i (Some x) is = slice_get_read xs (length xs) i x.now refl is.3.0 is.1

pub constant-at : (vs : List Value) (i : ℕ) (o : Option (Bor Value)) → IsItemAt vs i o
    → slice_get (map view vs) i ≡ option_map (λ v. view v.now) o
constant-at vs i None is = slice_get-map view vs i ∙ ap (option_map view) (lookup-item vs i None is)
constant-at vs i (Some v) is = slice_get-map view vs i ∙ ap (option_map view) (lookup-item vs i (Some v) is)

pub parameter-at : (qs : List Parameter) (vs : List Value) (i : ℕ) {j m : ℕ} (o : Option (Bor Parameter)) → IsItemAt qs j o → j ≡ i - m
    → m ≡ length vs → slice_get qs (i - length (map view vs)) ≡ option_map (λ q. q.now) o
parameter-at qs vs i o is from same = ap (slice_get qs) (sym (from-constants i vs from same)) ∙ lookup-item qs _ o is

module _ (p : Setting) (s : State) where
  -- all parameters are left
  pub params-begin : (all : Params) → ParamsLeft p s all all []
  params-begin all = record { so = step }
    where
      step : (a : Answer (List PathAndData)) → HaveValues p s all a → HaveValues p s all (answer_map (λ vs. [] ++ vs) a)
      step (gives vs) has = has
      step (fails r) has = has

  written-value : (q : Parameter) (d : PathAndData) → HasWrittenValue p s (param_view q) (gives d)
      → d.relative_path ≡ as_name (param_view q)
  written-value q d (goes_on {x = f} has is) =
      let same : d ≡ as_written (param_view q) f = cc in ap (λ (z : PathAndData). z.relative_path) same

  -- the value at an index, among constants and among parameters
  pub value-at : (cs : List Data) (qs : List Parameter) (i : ℕ) (o : Option Data) (k : Option Parameter) (a : Answer (Option PathAndData))
      → slice_get cs i ≡ o → slice_get qs (i - length cs) ≡ k → HasConstantOr o (HasParamValue p s k) a → HasValueAt p s cs qs i a
  value-at cs qs i o k a constant parameter has =
      subst (λ (z : Option Data). HasConstantOr z (HasParamValue p s (slice_get qs (i - length cs))) a) (sym constant)
      (subst (λ (z : Option Parameter). HasConstantOr o (HasParamValue p s z) a) (sym parameter) has)

  -- the first value fails
  pub first-fails : (cs : List Data) (qs : List Parameter) (r : Refusal) → HasValueAt p s cs qs 0 (fails r)
      → HaveValues p s (params_view qs) (fails r)
  first-fails [] [] r is = absurd (gives≢fails (sym is))
  first-fails [] (q ∷ qs) r (goes_on has is) = absurd (gives≢fails (sym is))
  first-fails [] (q ∷ qs) r (first_fails f) = first_fails f
  first-fails (c ∷ cs) qs r is = absurd (gives≢fails (sym is))

  -- the values after the first one fail
  rest-fails : (cs : List Data) (qs : List Parameter) (o : Option PathAndData) (r : Refusal) → HasValueAt p s cs qs 0 (gives o)
      → HaveValues p s (params_view (drop (1 - length cs) qs)) (fails r) → HaveValues p s (params_view qs) (fails r)
  rest-fails [] [] o r is f = f
  rest-fails [] (q ∷ qs) o r (goes_on has is) f = goes_on has (first_fails f)
  rest-fails (c ∷ cs) qs o r is f =
      subst (λ (n : ℕ). HaveValues p s (params_view (drop n qs)) (fails r)) (none-left c cs) f

  pub rest-fails-from : (cs : List Data) (qs : List Parameter) (o : Option PathAndData) (n : ℕ) (r : Refusal) → n ≡ 1 - length cs
      → HasValueAt p s cs qs 0 (gives o) → HaveValues p s (params_view (drop n qs)) (fails r) → HaveValues p s (params_view qs) (fails r)
  rest-fails-from cs qs o n r from is f =
      rest-fails cs qs o r is (subst (λ (m : ℕ). HaveValues p s (params_view (drop m qs)) (fails r)) from f)

  -- all values, of which the first one is this
  pub record WithFirst (cs : List Data) (qs : List Parameter) (o : Option PathAndData) : Type 0 where
    pub values : List PathAndData
    pub have : HaveValues p s (params_view qs) (gives values)
    pub first : slice_get (map plain_value cs ++ values) 0 ≡ o
    pub written : with_or o (λ d. d.relative_path) None ≡ written_first cs qs

  with-first : (cs : List Data) (qs : List Parameter) (o : Option PathAndData) (vs : List PathAndData) → HasValueAt p s cs qs 0 (gives o)
      → HaveValues p s (params_view (drop (1 - length cs) qs)) (gives vs) → WithFirst cs qs o
  with-first [] [] o vs is more =
      let same : None ≡ o = cc in
      record { values = []; have = refl; first = same; written = ap (λ (z : Option PathAndData). with_or z (λ d. d.relative_path) None) (sym same) }
  with-first [] (q ∷ qs) o vs (goes_on {x = d} has is) more =
      let same : Some d ≡ o = cc in
      record {
        values = d ∷ vs;
        have = goes_on has (goes_on more refl);
        first = same;
        written = ap (λ (z : Option PathAndData). with_or z (λ e. e.relative_path) None) (sym same) ∙ written-value q d has;
      }
  with-first (c ∷ cs) qs o vs is more =
      let same : Some (plain_value c) ≡ o = cc in
      record {
        values = vs;
        have = subst (λ (n : ℕ). HaveValues p s (params_view (drop n qs)) (gives vs)) (none-left c cs) more;
        first = same;
        written = ap (λ (z : Option PathAndData). with_or z (λ e. e.relative_path) None) (sym same);
      }

  pub with-first-from : (cs : List Data) (qs : List Parameter) (o : Option PathAndData) (n : ℕ) (vs : List PathAndData)
      → n ≡ 1 - length cs → HasValueAt p s cs qs 0 (gives o) → HaveValues p s (params_view (drop n qs)) (gives vs) → WithFirst cs qs o
  with-first-from cs qs o n vs from is has =
      with-first cs qs o vs is (subst (λ (m : ℕ). HaveValues p s (params_view (drop m qs)) (gives vs)) from has)

  -- the second value fails
  pub second-fails : (cs : List Data) (qs : List Parameter) (o : Option PathAndData) (r : Refusal) → HasValueAt p s cs qs 0 (gives o)
      → HasValueAt p s cs qs 1 (fails r) → HaveValues p s (params_view qs) (fails r)
  second-fails [] [] o r is at = absurd (gives≢fails (sym at))
  second-fails [] (q ∷ []) o r (goes_on has is) at = absurd (gives≢fails (sym at))
  second-fails [] (q ∷ u ∷ qs) o r (goes_on has is) (first_fails f) = goes_on has (first_fails (first_fails f))
  second-fails [] (q ∷ u ∷ qs) o r (goes_on has is) (goes_on had at) = absurd (gives≢fails (sym at))
  second-fails (c ∷ []) [] o r is at = absurd (gives≢fails (sym at))
  second-fails (c ∷ []) (q ∷ qs) o r is (first_fails f) = first_fails f
  second-fails (c ∷ []) (q ∷ qs) o r is (goes_on had at) = absurd (gives≢fails (sym at))
  second-fails (c ∷ d ∷ cs) qs o r is at = absurd (gives≢fails (sym at))

  -- the values after the first two fail
  rest_of_two-fails : (cs : List Data) (qs : List Parameter) (o k : Option PathAndData) (r : Refusal) → HasValueAt p s cs qs 0 (gives o)
      → HasValueAt p s cs qs 1 (gives k) → HaveValues p s (params_view (drop (2 - length cs) qs)) (fails r)
      → HaveValues p s (params_view qs) (fails r)
  rest_of_two-fails [] [] o k r is at f = f
  rest_of_two-fails [] (q ∷ []) o k r (goes_on has is) at f = goes_on has (first_fails f)
  rest_of_two-fails [] (q ∷ u ∷ qs) o k r (goes_on has is) (goes_on had at) f = goes_on has (first_fails (goes_on had (first_fails f)))
  rest_of_two-fails (c ∷ []) [] o k r is at f = f
  rest_of_two-fails (c ∷ []) (q ∷ qs) o k r is (goes_on had at) f = goes_on had (first_fails f)
  rest_of_two-fails (c ∷ d ∷ cs) qs o k r is at f =
      subst (λ (n : ℕ). HaveValues p s (params_view (drop n qs)) (fails r)) (none-left-of_two c d cs) f

  pub rest_of_two-fails-from : (cs : List Data) (qs : List Parameter) (o k : Option PathAndData) (n : ℕ) (r : Refusal)
      → n ≡ 2 - length cs → HasValueAt p s cs qs 0 (gives o) → HasValueAt p s cs qs 1 (gives k)
      → HaveValues p s (params_view (drop n qs)) (fails r) → HaveValues p s (params_view qs) (fails r)
  rest_of_two-fails-from cs qs o k n r from is at f =
      rest_of_two-fails cs qs o k r is at (subst (λ (m : ℕ). HaveValues p s (params_view (drop m qs)) (fails r)) from f)

  -- all values, of which these are the first two
  pub record WithTwo (cs : List Data) (qs : List Parameter) (o k : Option PathAndData) : Type 0 where
    pub values : List PathAndData
    pub have : HaveValues p s (params_view qs) (gives values)
    pub first : slice_get (map plain_value cs ++ values) 0 ≡ o
    pub second : slice_get (map plain_value cs ++ values) 1 ≡ k

  with-two : (cs : List Data) (qs : List Parameter) (o k : Option PathAndData) (vs : List PathAndData) → HasValueAt p s cs qs 0 (gives o)
      → HasValueAt p s cs qs 1 (gives k) → HaveValues p s (params_view (drop (2 - length cs) qs)) (gives vs) → WithTwo cs qs o k
  with-two [] [] o k vs is at more =
      let one : None ≡ o = cc in
      let other : None ≡ k = cc in
      record { values = []; have = refl; first = one; second = other }
  with-two [] (q ∷ []) o k vs (goes_on {x = d} has is) at more =
      let one : Some d ≡ o = cc in
      let other : None ≡ k = cc in
      record { values = d ∷ []; have = goes_on has (goes_on {x = []} refl refl); first = one; second = other }
  with-two [] (q ∷ u ∷ qs) o k vs (goes_on {x = d} has is) (goes_on {x = e} had at) more =
      let one : Some d ≡ o = cc in
      let other : Some e ≡ k = cc in
      record { values = d ∷ e ∷ vs; have = goes_on has (goes_on (goes_on had (goes_on more refl)) refl); first = one; second = other }
  with-two (c ∷ []) [] o k vs is at more =
      let one : Some (plain_value c) ≡ o = cc in
      let other : None ≡ k = cc in
      record { values = []; have = refl; first = one; second = other }
  with-two (c ∷ []) (q ∷ qs) o k vs is (goes_on {x = e} had at) more =
      let one : Some (plain_value c) ≡ o = cc in
      let other : Some e ≡ k = cc in
      record { values = e ∷ vs; have = goes_on had (goes_on more refl); first = one; second = other }
  with-two (c ∷ d ∷ cs) qs o k vs is at more =
      let one : Some (plain_value c) ≡ o = cc in
      let other : Some (plain_value d) ≡ k = cc in
      record {
        values = vs;
        have = subst (λ (n : ℕ). HaveValues p s (params_view (drop n qs)) (gives vs)) (none-left-of_two c d cs) more;
        first = one;
        second = other;
      }

  pub with-two-from : (cs : List Data) (qs : List Parameter) (o k : Option PathAndData) (n : ℕ) (vs : List PathAndData)
      → n ≡ 2 - length cs → HasValueAt p s cs qs 0 (gives o) → HasValueAt p s cs qs 1 (gives k)
      → HaveValues p s (params_view (drop n qs)) (gives vs) → WithTwo cs qs o k
  with-two-from cs qs o k n vs from is at has =
      with-two cs qs o k vs is at (subst (λ (m : ℕ). HaveValues p s (params_view (drop m qs)) (gives vs)) from has)

  -- ---- what a helper chooses, once all is evaluated

  module _ (cs : List Data) (params : Params) (hash : Hash) (kind : BuiltInKind) (h : HelperView) where
    abbrev Passes : Asks Passed
    Passes = HaveValues p s params >>= (λ vs. HashHasValues p s hash >>= (λ ws. only (gives (map plain_value cs ++ vs, ws))))

    abbrev Chooses : Asks Choice
    Chooses = Passes >>= (λ passed. only (built_in_choice p.parts.strict kind (passing h passed)))

    pub params-fail : (r : Refusal) → HaveValues p s params (fails r) → Chooses (fails r)
    params-fail r f = first_fails (first_fails f)

    pub hash-fails : (vs : List PathAndData) (r : Refusal) → HaveValues p s params (gives vs) → HashHasValues p s hash (fails r)
        → Chooses (fails r)
    hash-fails vs r has f = first_fails (goes_on has (first_fails f))

    pub chosen : {T : Type 0} (seen : T → Choice) (r : Result T RenderError) (vs : List PathAndData) (ws : List (Text × PathAndData))
        (a : Answer Choice) → HaveValues p s params (gives vs) → HashHasValues p s hash (gives ws)
        → built_in_choice p.parts.strict kind (passing h (map plain_value cs ++ vs, ws)) ≡ a → Answers seen r a
        → Yields Chooses seen r
    chosen seen r vs ws a has hashed is answers =
        yields-then seen Passes (λ passed. only (built_in_choice p.parts.strict kind (passing h passed))) r
        (goes_on has (goes_on hashed refl))
        (subst (λ (z : Answer Choice). Yields (λ b. b ≡ z) seen r) (sym is) (yields-answer seen a r answers))
