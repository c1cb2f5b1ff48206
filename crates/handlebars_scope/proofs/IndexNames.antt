-- The digits of an index lead to its item.
use Rattle.std.proofs.Common.{◌≡◌, ◌≢◌, ◌<◌, ◌^◌, ℕ, true, List, [], ◌∷◌, Some, length, get_or, nat_lt, arith, decimal, refl, ap, ◌∙◌}
use Rattle.std.specs.Str.{all_ascii_digits}
use Rattle.std.specs.Str.Parse.{digits_value, AllDigits}
use Rattle.std.proofs.lemmas.Str.Parse.{tells_digits, tells_all_ascii_digits, without_leading_plus_none}
use Rattle.std.proofs.lemmas.Fmt.{decimal_is_IsNumeral}
use Rattle.std.proofs.lemmas.Bool.{lt-ltb}
use Rattle.handlebars_scope.specs.Resolve.{digits_index, index_of}

all_digits : (ds : List ℕ) → AllDigits 10 ds → all_ascii_digits ds ≡ true
all_digits [] h = tells_all_ascii_digits.empty
all_digits (c ∷ cs) h = let p = tells_digits.parts c cs h in tells_all_ascii_digits.more c cs p.0 (all_digits cs p.1)

no_plus : (ds : List ℕ) → AllDigits 10 ds → get_or ds 0 0 ≢ 43
no_plus [] h = λ e. omega (arith, e)
no_plus (c ∷ cs) h = let p = tells_digits.parts c cs h in λ e. grind (arith, p.0, e)

index_as : (n v : ℕ) (ds : List ℕ) → v ≡ n → digits_value 10 ds ≡ v → all_ascii_digits ds ≡ true → nat_lt 0 (length ds) ≡ true
    → nat_lt v (2 ^ 64) ≡ true → digits_index ds ≡ Some n
index_as n v ds e is all some small = rw (is, all, some, small) (ap (λ z. Some z) e)

pub index_of-decimal : (n : ℕ) → n < 2 ^ 64 → index_of (decimal n) ≡ Some n
index_of-decimal n h =
    let k = decimal_is_IsNumeral n h in
    ap digits_index (without_leading_plus_none (decimal n) (no_plus (decimal n) k.0.1))
    ∙ index_as n n (decimal n) refl k.1 (all_digits (decimal n) k.0.1) (lt-ltb 0 (length (decimal n)) k.0.0) (lt-ltb n (2 ^ 64) h)
