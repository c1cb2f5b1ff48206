-- The sizes of arrays and objects.
use Rattle.std.proofs.Common.{◌≡◌, ◌==◌, ℕ, suc, Bool, true, false, length, List, [], ◌∷◌, String, Global, refl, sym, ap}
use Rattle.std.proofs.lemmas.Bool.{eqb-true}
use native.Mathlib.Numerals.{unary_clauses}
use Rattle.serde_json.specs.View.{items_view, members_view}
use Rattle.serde_json.specs.declared.value.Value.{Value}
use Rattle.handlebars_helpers.specs.Iterations.{item_count, member_count}

pub length-item_count : (vs : List Value) → length vs ≡ item_count (items_view vs)
length-item_count [] = refl
length-item_count (v ∷ vs) = simp unary_clauses (ap suc (length-item_count vs))

pub length-member_count : (ms : List (String Global × Value)) → length ms ≡ member_count (members_view ms)
length-member_count [] = refl
length-member_count (m ∷ ms) = simp unary_clauses (ap suc (length-member_count ms))

zero-not : (tested : Bool) (n : ℕ) → tested ≡ (n == 0) → (n ≡ 0 → false ≡ true) → false ≡ tested
zero-not false n is h = refl
zero-not true n is h = h (eqb-true n 0 (sym is))

-- a test that holds if and only if a number is 0
pub zero-tested : (b : Bool) (n : ℕ) → (b ≡ true → n ≡ 0) × (n ≡ 0 → b ≡ true) → b ≡ (n == 0)
zero-tested true n h = ap (λ (k : ℕ). k == 0) (sym (h.0 refl))
zero-tested false n h = zero-not (n == 0) n refl h.1
