-- What built-in helpers choose, by the values that they decide by.
use Rattle.std.proofs.Common.{◌≡◌, ◌==◌, ◌+◌, ℕ, Bool, true, false, cond, ◌&&◌, not, List, [], ◌∷◌, Option, Some, None, codes, refl, sym, ap, ◌∙◌, arith}
use Rattle.std.specs.Prelude.{slice_get}
use Rattle.serde_json.specs.Data.{Data, null, boolean, number, unsigned, string, array, object, Items, no_items, item, Members, no_members, member}
use Rattle.handlebars_base.specs.Answers.{Answer, gives, fails, answer_map}
use Rattle.handlebars_base.specs.Bytes.{Text}
use Rattle.handlebars_base.specs.Optional.{with_or}
use Rattle.handlebars_base.specs.PathAndData.{PathAndData}
use Rattle.handlebars_base.specs.Reasons.{Refusal, missing_variable, param_not_found_for_index, param_not_found_for_name}
use Rattle.handlebars_base.specs.RenderRefusals.{plain_refusal}
use Rattle.handlebars_base.specs.Scoped.{Found, data_in, path_in}
use Rattle.handlebars_base.specs.Values.{truth}
use Rattle.handlebars_scope.specs.Scopes.{base_of}
use Rattle.handlebars_helpers.specs.Boolean.{size}
use Rattle.handlebars_helpers.specs.CallView.{HelperView}
use Rattle.handlebars_helpers.specs.Choice.{Choice, body_in_block, body_in_iterations, built_in_choice, includes_zero, inverse_or_refusal, nothing, the_boolean, the_inverse, the_value, walk_or_inverse}
use Rattle.handlebars_helpers.specs.Iterations.{item_count, iterations_of, member_count}
use Rattle.handlebars_helpers.specs.Params.{is_missing, two_values}
use Rattle.handlebars_values.specs.BuiltIn.{AsksFor, absent, decided_by_first, decided_by_two, decided_by_value, found_in, has_members, inverse_or_error, kind_by_first, kind_by_truth, kind_by_two, passed_call, passing, required_data, truth_of, walk_of}
use Rattle.handlebars_values.specs.ChoiceView.{test_of}
use Rattle.handlebars_values.specs.declared.boolean.Test.{Test}
use Rattle.handlebars_values.specs.declared.boolean.Test.TheVariants as test
use Rattle.handlebars_values.specs.declared.built_in.Asked.{Asked}
use Rattle.handlebars_values.specs.declared.by_first.ByFirst.{ByFirst}
use Rattle.handlebars_values.specs.declared.by_first.ByFirst.TheVariants as first
use Rattle.handlebars_values.specs.declared.by_two.ByTwo.{ByTwo}
use Rattle.handlebars_values.specs.declared.by_two.ByTwo.TheVariants as two
use Rattle.handlebars_values.proofs.MemberCounts.{zero-tested}

one-more : (n : ℕ) → false ≡ (n + 1 == 0)
one-more n = zero-tested false (n + 1) (λ is. absurd (false≢true is), λ is. absurd (omega (arith, is)))
  where
    false≢true : false ≡ true → ⊥
    false≢true is = cc

-- an answer that depends on a test
answer_map-cond : {A B : Type 0} (g : A → B) (b : Bool) (r : Refusal) (x : A)
    → answer_map g (cond b (fails r) (gives x)) ≡ cond b (fails r) (gives (g x))
answer_map-cond g true r x = refl
answer_map-cond g false r x = refl

-- ---- by the first value

module _ (strict : Bool) (a : Asked) (h : HelperView) (asks : AsksFor a h) where
  inverse-of : (v : PathAndData) → inverse_or_refusal strict h v ≡ inverse_or_error strict a v.relative_path
  inverse-of v = ap (λ b. cond (strict && b) (fails (plain_refusal (missing_variable v.relative_path))) (gives the_inverse)) asks.inverse

  walk-items : (v : PathAndData) (ds : Items) → data_in v.found ≡ array ds
      → walk_or_inverse strict h v (array ds) ≡ walk_of strict a v.relative_path v.found (has_members (array ds))
  walk-items v no_items is = refl
  walk-items v (item d ds) is =
      ap (λ (z : Data). gives (body_in_iterations (path_in v.found) (iterations_of z))) (sym is)
      ∙ ap (λ b. walk_of strict a v.relative_path v.found (Some (not b))) (one-more (item_count ds))

  walk-members : (v : PathAndData) (ms : Members) → data_in v.found ≡ object ms
      → walk_or_inverse strict h v (object ms) ≡ walk_of strict a v.relative_path v.found (has_members (object ms))
  walk-members v no_members is = refl
  walk-members v (member k d ms) is =
      ap (λ (z : Data). gives (body_in_iterations (path_in v.found) (iterations_of z))) (sym is)
      ∙ ap (λ b. walk_of strict a v.relative_path v.found (Some (not b))) (one-more (member_count ms))

  walked : (v : PathAndData) (d : Data) → data_in v.found ≡ d
      → walk_or_inverse strict h v d ≡ walk_of strict a v.relative_path v.found (has_members d)
  walked v null is = inverse-of v
  walked v (boolean b) is = inverse-of v
  walked v (number n) is = inverse-of v
  walked v (string t) is = inverse-of v
  walked v (array ds) is = walk-items v ds is
  walked v (object ms) is = walk-members v ms is

  -- what a helper chooses without values
  first-absent : (by : ByFirst) (written : Option Text) (zero : Bool) (ws : List (Text × PathAndData))
      → built_in_choice strict (kind_by_first by) (passing h ([], ws)) ≡ decided_by_first by strict a written zero None
  first-absent first.If written zero ws = refl
  first-absent first.Unless written zero ws = refl
  first-absent first.Each written zero ws = refl
  first-absent first.With written zero ws = refl
  first-absent first.Not written zero ws = refl
  first-absent first.Len written zero ws = refl

  -- what a helper chooses by its first value
  first-there : (by : ByFirst) (v : PathAndData) (vs : List PathAndData) (ws : List (Text × PathAndData))
      → built_in_choice strict (kind_by_first by) (passing h (v ∷ vs, ws))
      ≡ decided_by_value by strict a v.relative_path (includes_zero (passed_call ([], ws))) v.found
  first-there first.If v vs ws = refl
  first-there first.Unless v vs ws = refl
  first-there first.Each v vs ws =
      ap (λ b. cond b (gives nothing) (walk_or_inverse strict h v (data_in v.found))) asks.body
      ∙ ap (λ (z : Answer Choice). cond (not a.has_body) (gives nothing) z) (walked v (data_in v.found) refl)
  first-there first.With v vs ws =
      ap (λ (z : Answer Choice). cond (truth false (data_in v.found)) (gives (body_in_block (base_of v.found))) z) (inverse-of v)
  first-there first.Not v vs ws =
      answer_map-cond (λ b. the_boolean b) (strict && is_missing v.found) (plain_refusal (param_not_found_for_index (codes "not") 0))
      (not (truth false (data_in v.found)))
  first-there first.Len v vs ws =
      answer_map-cond (λ n. the_value (number (unsigned n))) (strict && is_missing v.found)
      (plain_refusal (param_not_found_for_name (codes "len") (codes "x"))) (size (data_in v.found))

  pub decided-first : (by : ByFirst) (vs : List PathAndData) (ws : List (Text × PathAndData)) {o : Option PathAndData}
      {f : Option Found} {written : Option Text} {zero : Bool} → slice_get vs 0 ≡ o → with_or o (λ v. v.relative_path) None ≡ written
      → found_in o ≡ f → zero ≡ includes_zero (passed_call ([], ws))
      → built_in_choice strict (kind_by_first by) (passing h (vs, ws)) ≡ decided_by_first by strict a written zero f
  decided-first by [] ws {f = f} {written = written} {zero = zero} at_first at found is_zero =
      first-absent by written zero ws ∙ ap (λ (z : Option Found). decided_by_first by strict a written zero z) (ap found_in at_first ∙ found)
  decided-first by (v ∷ vs) ws {o = o} {f = f} {written = written} {zero = zero} at_first at found is_zero =
      first-there by v vs ws
      ∙ ap (λ (z : Bool). decided_by_first by strict a v.relative_path z (Some v.found)) (sym is_zero)
      ∙ ap (λ (z : Option Text). decided_by_first by strict a z zero (Some v.found))
      (ap (λ (z : Option PathAndData). with_or z (λ d. d.relative_path) None) at_first ∙ at)
      ∙ ap (λ (z : Option Found). decided_by_first by strict a written zero z) (ap found_in at_first ∙ found)

-- ---- by two values

required-first : (test : Data → Data → Bool) (b : Bool) (r missing_one : Refusal) (x : Data)
    → answer_map (λ (d : Data × Data). the_boolean (test d.0 d.1)) (cond b (fails r) (fails missing_one))
    ≡ with_or (cond b None (Some x)) (λ y. fails missing_one) (fails r)
required-first test true r missing_one x = refl
required-first test false r missing_one x = refl

required-both : (test : Data → Data → Bool) (b c : Bool) (r q : Refusal) (x y : Data)
    → answer_map (λ (d : Data × Data). the_boolean (test d.0 d.1)) (cond b (fails r) (cond c (fails q) (gives (x, y))))
    ≡ with_or (cond b None (Some x)) (λ z. with_or (cond c None (Some y)) (λ w. gives (the_boolean (test z w))) (fails q)) (fails r)
required-both test true c r q x y = refl
required-both test false true r q x y = refl
required-both test false false r q x y = refl

module _ (strict : Bool) (h : HelperView) where
  tested : (name : Text) (test : Data → Data → Bool) (vs : List PathAndData) (ws : List (Text × PathAndData))
      → answer_map (λ (d : Data × Data). the_boolean (test d.0 d.1)) (two_values strict name (passing h (vs, ws)).call)
      ≡ with_or (required_data strict (found_in (slice_get vs 0))) (λ x.
      with_or (required_data strict (found_in (slice_get vs 1))) (λ y. gives (the_boolean (test x y))) (absent name 1)) (absent name 0)
  tested name test [] ws = refl
  tested name test (v ∷ []) ws =
      required-first test (strict && is_missing v.found) (plain_refusal (param_not_found_for_index name 0))
      (plain_refusal (param_not_found_for_index name 1)) (data_in v.found)
  tested name test (v ∷ w ∷ vs) ws =
      required-both test (strict && is_missing v.found) (strict && is_missing w.found) (plain_refusal (param_not_found_for_index name 0))
      (plain_refusal (param_not_found_for_index name 1)) (data_in v.found) (data_in w.found)

  two-there : (by : ByTwo) (vs : List PathAndData) (ws : List (Text × PathAndData))
      → built_in_choice strict (kind_by_two by) (passing h (vs, ws))
      ≡ decided_by_two by strict (found_in (slice_get vs 0)) (found_in (slice_get vs 1))
  two-there two.Lookup [] ws = refl
  two-there two.Lookup (v ∷ []) ws = refl
  two-there two.Lookup (v ∷ w ∷ vs) ws = refl
  two-there (two.Test test.Equal) vs ws = tested (codes "eq") (test_of test.Equal) vs ws
  two-there (two.Test test.Differ) vs ws = tested (codes "ne") (test_of test.Differ) vs ws
  two-there (two.Test test.Greater) vs ws = tested (codes "gt") (test_of test.Greater) vs ws
  two-there (two.Test test.GreaterOrEqual) vs ws = tested (codes "gte") (test_of test.GreaterOrEqual) vs ws
  two-there (two.Test test.Less) vs ws = tested (codes "lt") (test_of test.Less) vs ws
  two-there (two.Test test.LessOrEqual) vs ws = tested (codes "lte") (test_of test.LessOrEqual) vs ws

  pub decided-two : (by : ByTwo) (vs : List PathAndData) (ws : List (Text × PathAndData)) {o q : Option PathAndData}
      {f g : Option Found} → slice_get vs 0 ≡ o → slice_get vs 1 ≡ q → found_in o ≡ f → found_in q ≡ g
      → built_in_choice strict (kind_by_two by) (passing h (vs, ws)) ≡ decided_by_two by strict f g
  decided-two by vs ws {o = o} {q = q} {f = f} {g = g} at_first at_second first second =
      two-there by vs ws
      ∙ ap (λ (z : Option Found). decided_by_two by strict z (found_in (slice_get vs 1))) (ap found_in at_first ∙ first)
      ∙ ap (λ (z : Option Found). decided_by_two by strict f z) (ap found_in at_second ∙ second)

  -- ---- by all values

  pub decided-truth : (all : Bool) (vs : List PathAndData) (ws : List (Text × PathAndData))
      → built_in_choice strict (kind_by_truth all) (passing h (vs, ws)) ≡ gives (the_boolean (truth_of all vs))
  decided-truth true vs ws = refl
  decided-truth false vs ws = refl
