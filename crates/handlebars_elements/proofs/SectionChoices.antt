-- What sections choose, by their values.
use Rattle.std.proofs.Common.{◌≡◌, ◌==◌, ◌+◌, ℕ, Bool, true, false, cond, ◌&&◌, not, List, [], ◌∷◌, Option, Some, None, codes, refl, sym, ap, ◌∙◌, arith, is_some}
use Rattle.std.proofs.lemmas.Bool.{eqb-true}
use Rattle.std.specs.Prelude.{slice_get}
use Rattle.serde_json.specs.Data.{Data, null, boolean, number, unsigned, string, array, object, Items, no_items, item, Members, no_members, member}
use Rattle.handlebars_base.specs.Answers.{Answer, gives, fails, answer_map}
use Rattle.handlebars_base.specs.Bytes.{Text}
use Rattle.handlebars_base.specs.Optional.{with_or}
use Rattle.handlebars_base.specs.PathAndData.{PathAndData}
use Rattle.handlebars_base.specs.Reasons.{Refusal, missing_variable, param_not_found_for_index, param_not_found_for_name}
use Rattle.handlebars_base.specs.RenderRefusals.{plain_refusal}
use Rattle.handlebars_base.specs.Scoped.{Found, data_in, path_in}
use Rattle.handlebars_base.specs.Values.{truth}
use Rattle.handlebars_template.specs.Tree.{Param, as_name, call_name}
use Rattle.handlebars_template.specs.TreeView.{call_view, param_view}
use Rattle.handlebars_template.specs.declared.template.tree.HelperTemplate.{HelperTemplate, out-HelperTemplate}
use Rattle.handlebars_template.proofs.Levels.{call_name-view}
use Rattle.handlebars_scope.specs.Scopes.{base_of}
use Rattle.handlebars_helpers.specs.Boolean.{size}
use Rattle.handlebars_helpers.specs.CallView.{HelperView}
use Rattle.handlebars_helpers.specs.Choice.{BuiltInKind, Choice, body_in_block, body_in_iterations, built_in_choice, includes_zero, inverse_or_refusal, nothing, the_boolean, the_inverse, the_value, walk_or_inverse}
use Rattle.handlebars_helpers.specs.Iterations.{item_count, iterations_of, member_count}
use Rattle.handlebars_helpers.specs.Params.{is_missing}
use Rattle.handlebars_semantics.specs.Execute.{view_with_bodies}
use Rattle.handlebars_semantics.specs.Sections.{section_call, section_kind}
use Rattle.handlebars_semantics.specs.Values.{as_written}
use Rattle.handlebars_values.specs.BuiltIn.{AsksFor, decided_by_first, decided_by_value, found_in, has_members, inverse_or_error, kind_by_first, passed_call, passing, walk_of}
use Rattle.handlebars_values.specs.declared.built_in.Asked.{Asked}
use Rattle.handlebars_values.specs.declared.by_first.ByFirst.{ByFirst}
use Rattle.handlebars_values.specs.declared.by_first.ByFirst.TheVariants as first
use Rattle.handlebars_elements.specs.Chosen.{section_choice}
use Rattle.handlebars_elements.proofs.SectionCalls.{name_view}
use Rattle.handlebars_elements.proofs.TargetChoices.{asks-for}

zero-not : (tested : Bool) (n : ℕ) → tested ≡ (n == 0) → (n ≡ 0 → false ≡ true) → false ≡ tested
zero-not false n is h = refl
zero-not true n is h = h (eqb-true n 0 (sym is))

one-more : (n : ℕ) → false ≡ (n + 1 == 0)
one-more n = zero-not (n + 1 == 0) (n + 1) refl (λ is. absurd (omega (arith, is)))

-- an answer that depends on a test
answer_map-cond : {A B : Type 0} (g : A → B) (b : Bool) (r : Refusal) (x : A)
    → answer_map g (cond b (fails r) (gives x)) ≡ cond b (fails r) (gives (g x))
answer_map-cond g true r x = refl
answer_map-cond g false r x = refl

-- ---- by the first value

module _ (strict : Bool) (a : Asked) (h : HelperView) (asks : AsksFor a h) where
  inverse-of : (v : PathAndData) → inverse_or_refusal strict h v ≡ inverse_or_error strict a v.relative_path
  inverse-of v = ap (λ b. cond (strict && b) (fails (plain_refusal (missing_variable v.relative_path))) (gives the_inverse)) asks.inverse

  walk-items : (v : PathAndData) (ds : Items) → data_in v.found ≡ array ds
      → walk_or_inverse strict h v (array ds) ≡ walk_of strict a v.relative_path v.found (has_members (array ds))
  walk-items v no_items is = refl
  walk-items v (item d ds) is =
      ap (λ (z : Data). gives (body_in_iterations (path_in v.found) (iterations_of z))) (sym is)
      ∙ ap (λ b. walk_of strict a v.relative_path v.found (Some (not b))) (one-more (item_count ds))

  walk-members : (v : PathAndData) (ms : Members) → data_in v.found ≡ object ms
      → walk_or_inverse strict h v (object ms) ≡ walk_of strict a v.relative_path v.found (has_members (object ms))
  walk-members v no_members is = refl
  walk-members v (member k d ms) is =
      ap (λ (z : Data). gives (body_in_iterations (path_in v.found) (iterations_of z))) (sym is)
      ∙ ap (λ b. walk_of strict a v.relative_path v.found (Some (not b))) (one-more (member_count ms))

  walked : (v : PathAndData) (d : Data) → data_in v.found ≡ d
      → walk_or_inverse strict h v d ≡ walk_of strict a v.relative_path v.found (has_members d)
  walked v null is = inverse-of v
  walked v (boolean b) is = inverse-of v
  walked v (number n) is = inverse-of v
  walked v (string t) is = inverse-of v
  walked v (array ds) is = walk-items v ds is
  walked v (object ms) is = walk-members v ms is

  -- what a helper chooses without values
  first-absent : (by : ByFirst) (written : Option Text) (zero : Bool) (ws : List (Text × PathAndData))
      → built_in_choice strict (kind_by_first by) (passing h ([], ws)) ≡ decided_by_first by strict a written zero None
  first-absent first.If written zero ws = refl
  first-absent first.Unless written zero ws = refl
  first-absent first.Each written zero ws = refl
  first-absent first.With written zero ws = refl
  first-absent first.Not written zero ws = refl
  first-absent first.Len written zero ws = refl

  -- what a helper chooses by its first value
  first-there : (by : ByFirst) (v : PathAndData) (vs : List PathAndData) (ws : List (Text × PathAndData))
      → built_in_choice strict (kind_by_first by) (passing h (v ∷ vs, ws))
      ≡ decided_by_value by strict a v.relative_path (includes_zero (passed_call ([], ws))) v.found
  first-there first.If v vs ws = refl
  first-there first.Unless v vs ws = refl
  first-there first.Each v vs ws =
      ap (λ b. cond b (gives nothing) (walk_or_inverse strict h v (data_in v.found))) asks.body
      ∙ ap (λ (z : Answer Choice). cond (not a.has_body) (gives nothing) z) (walked v (data_in v.found) refl)
  first-there first.With v vs ws =
      ap (λ (z : Answer Choice). cond (truth false (data_in v.found)) (gives (body_in_block (base_of v.found))) z) (inverse-of v)
  first-there first.Not v vs ws =
      answer_map-cond (λ b. the_boolean b) (strict && is_missing v.found) (plain_refusal (param_not_found_for_index (codes "not") 0))
      (not (truth false (data_in v.found)))
  first-there first.Len v vs ws =
      answer_map-cond (λ n. the_value (number (unsigned n))) (strict && is_missing v.found)
      (plain_refusal (param_not_found_for_name (codes "len") (codes "x"))) (size (data_in v.found))

  pub decided-first : (by : ByFirst) (vs : List PathAndData) (ws : List (Text × PathAndData)) {o : Option PathAndData}
      {f : Option Found} {written : Option Text} {zero : Bool} → slice_get vs 0 ≡ o → with_or o (λ v. v.relative_path) None ≡ written
      → found_in o ≡ f → zero ≡ includes_zero (passed_call ([], ws))
      → built_in_choice strict (kind_by_first by) (passing h (vs, ws)) ≡ decided_by_first by strict a written zero f
  decided-first by [] ws {f = f} {written = written} {zero = zero} at_first at found is_zero =
      first-absent by written zero ws ∙ ap (λ (z : Option Found). decided_by_first by strict a written zero z) (ap found_in at_first ∙ found)
  decided-first by (v ∷ vs) ws {o = o} {f = f} {written = written} {zero = zero} at_first at found is_zero =
      first-there by v vs ws
      ∙ ap (λ (z : Bool). decided_by_first by strict a v.relative_path z (Some v.found)) (sym is_zero)
      ∙ ap (λ (z : Option Text). decided_by_first by strict a z zero (Some v.found))
      (ap (λ (z : Option PathAndData). with_or z (λ d. d.relative_path) None) at_first ∙ at)
      ∙ ap (λ (z : Option Found). decided_by_first by strict a written zero z) (ap found_in at_first ∙ found)

-- ---- sections

-- what the built-in helper that a section is chooses
pub section-decided : (h : HelperTemplate) (strict : Bool) (by : ByFirst) (a : Asked) (found : Found)
    → a.has_body ≡ is_some (out-HelperTemplate h).template → a.has_inverse ≡ is_some (out-HelperTemplate h).inverse
    → kind_by_first by ≡ section_kind (data_in found)
    → section_choice strict (call_view h) found ≡ decided_by_first by strict a (as_name (param_view (out-HelperTemplate h).name)) false (Some found)
section-decided h strict by a found body inverse kind =
    let c = call_view h in
    let v = name_view c in
    let given = as_written (call_name c) found in
    ap (λ (k : BuiltInKind). built_in_choice strict k (view_with_bodies true c (section_call (call_name c) v found).1)) (sym kind)
    ∙ decided-first strict a (view_with_bodies true c v) (asks-for true h v a body inverse) by (given ∷ []) [] {o = Some given} refl refl refl refl
    ∙ ap (λ (q : Param). decided_by_first by strict a (as_name q) false (Some found)) (call_name-view h)
