-- The text of a number has nothing to escape.
use Rattle.std.proofs.Common.{◌≡◌, ℕ, zero, suc, ◌/◌, ◌%◌, ◌<◌, ◌≤◌, ◌==◌, cond, true, false, [], ◌∷◌, ◌++◌, length, pos, negsuc, ℤ, refl, ap₂, arith}
use Rattle.std.specs.Prelude.{decimal}
use Rattle.std.specs.Fmt.{digits, digits_onto, digit_glyph, signed_decimal}
use Rattle.std.specs.List.{AllByRecursion}
use Rattle.std.proofs.lemmas.Bool.Decides.{nat_tests}
use Rattle.handlebars_base.specs.Bytes.{Text}
use Rattle.handlebars_base.specs.Escape.{escaped}
use Rattle.handlebars_base.proofs.EscapedBytes.{IsOther, escaped_byte-other}

-- a digit or a hyphen, or one of the two bytes between them
pub record IsNumeric (b : ℕ) : Type 0 where
  pub low : 45 ≤ b
  pub high : b ≤ 57

other : (b : ℕ) → IsNumeric b → IsOther b
other b n = let low = n.low in let high = n.high in record {
  less = λ e. omega arith;
  greater = λ e. omega arith;
  quote = λ e. omega arith;
  ampersand = λ e. omega arith;
  apostrophe = λ e. omega arith;
  back = λ e. omega arith;
  equals = λ e. omega arith;
}

pub escaped-numeric : (t : Text) → AllByRecursion IsNumeric t → escaped t ≡ t
unfolding escaped
escaped-numeric [] h = refl
escaped-numeric (b ∷ t) h = ap₂ (λ x y. x ++ y) (escaped_byte-other b (other b h.0)) (escaped-numeric t h.1)

digit : (d : ℕ) → d < 10 → IsNumeric (digit_glyph false d)
digit d h = record { low = grind (arith, nat_tests); high = grind (arith, nat_tests) }

glyph : (n : ℕ) → IsNumeric (digit_glyph false (n % 10))
glyph n = digit (n % 10) (omega arith)

numeric-digits_onto : (k n : ℕ) (t : Text) → AllByRecursion IsNumeric t → AllByRecursion IsNumeric (digits_onto k 10 false n t)
numeric-digits_onto zero n t h = h
numeric-digits_onto (suc k) n t h =
    let more = digit_glyph false (n % 10) ∷ t in
    elim (n / 10 == 0) as (λ x. AllByRecursion IsNumeric (cond x more (digits_onto k 10 false (n / 10) more))) [
      | true ↦ (glyph n, h)
      | false ↦ numeric-digits_onto k (n / 10) more (glyph n, h)
    ]

nonempty-digits_onto : (k n : ℕ) (b : ℕ) (t : Text) → 1 ≤ length (digits_onto k 10 false n (b ∷ t))
nonempty-digits_onto zero n b t = omega arith
nonempty-digits_onto (suc k) n b t =
    let more = digit_glyph false (n % 10) ∷ b ∷ t in
    elim (n / 10 == 0) as (λ x. 1 ≤ length (cond x more (digits_onto k 10 false (n / 10) more))) [
      | true ↦ omega arith
      | false ↦ nonempty-digits_onto k (n / 10) (digit_glyph false (n % 10)) (b ∷ t)
    ]

pub numeric-decimal : (n : ℕ) → AllByRecursion IsNumeric (decimal n)
unfolding digits
numeric-decimal n = numeric-digits_onto 64 n [] tt

pub nonempty-decimal : (n : ℕ) → 1 ≤ length (decimal n)
unfolding digits
nonempty-decimal n =
    let last = digit_glyph false (n % 10) ∷ [] in
    elim (n / 10 == 0) as (λ x. 1 ≤ length (cond x last (digits_onto 63 10 false (n / 10) last))) [
      | true ↦ omega arith
      | false ↦ nonempty-digits_onto 63 (n / 10) (digit_glyph false (n % 10)) []
    ]

pub numeric-signed_decimal : (z : ℤ) → AllByRecursion IsNumeric (signed_decimal z)
numeric-signed_decimal (pos n) = numeric-decimal n
numeric-signed_decimal (negsuc n) = (record { low = omega arith; high = omega arith }, numeric-decimal (suc n))

pub nonempty-signed_decimal : (z : ℤ) → 1 ≤ length (signed_decimal z)
nonempty-signed_decimal (pos n) = nonempty-decimal n
nonempty-signed_decimal (negsuc n) = omega arith
