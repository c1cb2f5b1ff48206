-- What `parse` gives is the number that digits spell.
use Rattle.std.proofs.Common.{◌≡◌, ℕ, ◌<◌, ◌^◌, true, cond, List, ◌∷◌, [], length, Some, None, Result, Ok, Err, refl, arith, rules, inl, inr}
use Rattle.std.specs.Prelude.{nat_lt}
use Rattle.std.specs.Char.{is_ascii_digit}
use Rattle.std.specs.List.{list_all}
use Rattle.std.specs.Result.{OkIff, result_ok}
use Rattle.std.specs.Str.Parse.{ParsesUnsigned, digits_value}
use Rattle.std.proofs.lemmas.Bool.{lt-ltb, le-ltb, cases_lt}
use Rattle.std.proofs.lemmas.Str.Parse.{numerals_by_value, parse_digits, IsNumeralModel}
use Rattle.handlebars_expressions.specs.Literal.{is_digits, number_of}

pub digits : IsNumeralModel (λ ds. list_all is_ascii_digit ds ≡ true) (digits_value 10)
digits = numerals_by_value _ (search rules)

below : {E : Type 0} (r : Result ℕ E) (v n : ℕ) → OkIff r ((0 < n) × (v < 2 ^ 64)) v → 0 < n → result_ok r ≡ cond (nat_lt v (2 ^ 64)) (Some v) None
below (Ok x) v n h some = rw (lt-ltb v (2 ^ 64) h.0.1, h.1) refl
below (Err e) v n h some = elim (cases_lt v (2 ^ 64)) [
  | inl lt ↦ absurd (h (some, lt))
  | inr ge ↦ rw (le-ltb v (2 ^ 64) ge) refl
]

pub number_of-parse : {E : Type 0} (t : List ℕ) (r : Result ℕ E) → ParsesUnsigned 64 10 t r → is_digits t ≡ true → result_ok r ≡ number_of t
unfolding number_of
number_of-parse [] r h is = absurd cc
number_of-parse (b ∷ t) r h is = rw is (below r (digits_value 10 (b ∷ t)) (length (b ∷ t)) (parse_digits digits 64 (b ∷ t) r h is) (omega arith))
