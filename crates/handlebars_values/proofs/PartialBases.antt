-- The base value of a partial call.
use Rattle.std.proofs.Common.{◌≡◌, ◌≢◌, ◌<◌, ◌≤◌, List, [], ◌∷◌, length, get_or, map, Some, Result, Ok, Err, refl, sym, ap, ◌∙◌, subst, arith}
use Rattle.std.specs.Prelude.{IsErrAnd, slice_get}
use Rattle.serde_json.specs.Data.{Data}
use Rattle.handlebars_base.specs.Answers.{answer_map, gives, fails}
use Rattle.handlebars_base.specs.Path.{relative}
use Rattle.handlebars_base.specs.PathAndData.{PathAndData}
use Rattle.handlebars_base.specs.Reasons.{Refusal, out_of_memory}
use Rattle.handlebars_base.specs.RenderRefusals.{reason_in, refusal_of}
use Rattle.handlebars_base.specs.Scoped.{Found, data_in}
use Rattle.handlebars_scope.specs.Merged.{merge}
use Rattle.handlebars_helpers.specs.CallView.{CallView}
use Rattle.handlebars_semantics.specs.Inclusion.{hash_data}
use Rattle.handlebars_semantics.specs.Including.{base_value, this_param}
use Rattle.handlebars_semantics.specs.Questions.{value_of}
use Rattle.handlebars_semantics.specs.State.{Setting, State}
use Rattle.handlebars_semantics.specs.Steps.{ask, return, ◌>>=◌}
use Rattle.handlebars_semantics.specs.Values.{HasValue, path_value}
use Rattle.handlebars_expand.specs.Boxed.{answer_of, error_of}
use Rattle.handlebars_expand.specs.View.{GivesValue, ValueFails}
use Rattle.handlebars_expand.specs.declared.boxed.BoxedError.{BoxedError}
use Rattle.handlebars_expand.proofs.Asked.{gives-ask, fails-ask, fails-bind}
use Rattle.handlebars_values.proofs.PathValues.{answer_map-fails, answer_map-gives}
use Rattle.handlebars_values.specs.Inclusions.{HasBase, base_data}
use Rattle.handlebars_values.specs.declared.inclusion.PartialBase.{PartialBase}

-- ---- the first parameter

none-below : 0 < 0 → ⊥
none-below within = omega (arith, within)

none-over : {A : Type 0} (x : A) (xs : List A) → length (x ∷ xs) ≤ 0 → ⊥
none-over x xs over = omega (arith, over)

first-in : {A B : Type 0} (seen : A → B) (xs : List A) (x : A) → 0 < length xs → x ≡ get_or xs 0 x → Some (seen x) ≡ slice_get (map seen xs) 0
first-in seen [] x within is = absurd (none-below within)
first-in seen (y ∷ xs) x within is = ap (λ z. Some (seen z)) is

-- the first element, as definitions see it
pub first-seen : {A B : Type 0} (seen : A → B) (xs ys : List A) (x : A) → ys ≡ xs → 0 < length ys → x ≡ get_or ys 0 x
    → Some (seen x) ≡ slice_get (map seen xs) 0
first-seen seen xs ys x same within is = subst (λ zs. Some (seen x) ≡ slice_get (map seen zs) 0) same (first-in seen ys x within is)

none-in : {A B : Type 0} (seen : A → B) (xs : List A) → length xs ≤ 0 → map seen xs ≡ []
none-in seen [] over = refl
none-in seen (x ∷ xs) over = absurd (none-over x xs over)

pub none-seen : {A B : Type 0} (seen : A → B) (xs ys : List A) → ys ≡ xs → length ys ≤ 0 → map seen xs ≡ []
none-seen seen xs ys same over = subst (λ zs. map seen zs ≡ []) same (none-in seen ys over)

-- ---- the current value, of a call without parameters

module _ (p : Setting) (s : State) where
  gives-this : (found : Found) → HasValue p s this_param (gives found) → GivesValue p (base_value []) s (data_in found)
  unfolding ◌>>=◌
  gives-this found has k ps o r = gives-ask p (value_of this_param) found has (λ x. k (data_in x)) ps o r

  fails-this : (why : Refusal) → HasValue p s this_param (fails why) → ValueFails p (base_value []) s why
  fails-this why has =
      fails-bind p (ask (value_of this_param)) (λ found. return (data_in found)) (fails-ask p (value_of this_param) has)

  module _ (v : CallView) (none : v.params ≡ []) where
    -- a base that is the data of what was found, merged with the hash arguments
    pub has-current : (d : Data) (b : PartialBase) → answer_map data_in (path_value p s (relative [] [])) ≡ gives d
        → base_data b ≡ merge d (hash_data v.hash) → HasBase p v s base_data (Ok b)
    has-current d b is same =
        let x = answer_map-gives data_in (path_value p s (relative [] [])) d is in (
          data_in x.0,
          subst (λ (z : List PathAndData). GivesValue p (base_value z) s (data_in x.0)) (sym none) (gives-this x.0 (sym x.1)),
          same ∙ ap (λ (z : Data). merge z (hash_data v.hash)) (sym x.2),
        )

    -- an error that is propagated
    pub has-no-current : (r : Result PartialBase BoxedError) (e : BoxedError) → IsErrAnd r (λ d. d ≡ e)
        → (reason_in (error_of e) ≢ out_of_memory → answer_map data_in (path_value p s (relative [] [])) ≡ fails (refusal_of (error_of e)))
        → HasBase p v s base_data (answer_of r)
    has-no-current (Ok b) e is why = absurd is
    has-no-current (Err d) e is why = λ other.
        subst (λ (z : List PathAndData). ValueFails p (base_value z) s (refusal_of (error_of d))) (sym none)
        (fails-this (refusal_of (error_of d))
        (subst (λ (z : BoxedError). reason_in (error_of z) ≢ out_of_memory → HasValue p s this_param (fails (refusal_of (error_of z))))
        (sym is) (λ memory. sym (answer_map-fails data_in (path_value p s (relative [] [])) (refusal_of (error_of e)) (why memory))) other))
