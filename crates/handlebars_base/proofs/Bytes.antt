-- Bytes that differ.
use Rattle.std.proofs.Common.{◌≡◌, ℕ, ◌<◌, Bool, true, false, refl, ap, arith, inl, inr}
use Rattle.std.specs.Prelude.{◌==◌}
use Rattle.std.proofs.lemmas.Bool.{or_cases, or_parts, leb-false, eqb-true, ne_eqb, cases_Bool, both_ways}
use Rattle.handlebars_base.specs.Bytes.{is_white, is_symbol}

-- a byte of a kind differs from a byte that isn't of the kind
pub other_byte : (p : ℕ → Bool) (c : ℕ) → p c ≡ false → (b : ℕ) → p b ≡ true → (b == c) ≡ false
other_byte p c never b is = ne_eqb b c (λ e. let same : p b ≡ p c = ap p e in absurd cc)

pub is_white-ascii : (b : ℕ) → is_white b ≡ true → b < 128
is_white-ascii b h = elim (or_cases (b == 32) _ h) [
  | inl is ↦ let e = eqb-true b 32 is in omega arith
  | inr more ↦ elim (or_cases (b == 9) _ more) [
    | inl is ↦ let e = eqb-true b 9 is in omega arith
    | inr last ↦ elim (or_cases (b == 10) (b == 13) last) [
      | inl is ↦ let e = eqb-true b 10 is in omega arith
      | inr is ↦ let e = eqb-true b 13 is in omega arith
    ]
  ]
]

-- a byte that isn't a symbol is ASCII
pub no_symbol_ascii : (b : ℕ) → is_symbol b ≡ false → b < 128
no_symbol_ascii b h = leb-false 128 b (or_parts _ _ h).0

pub symbol_dark : (b : ℕ) → is_symbol b ≡ true → is_white b ≡ false
symbol_dark b h =
    rw (other_byte is_symbol 32 refl b h, other_byte is_symbol 9 refl b h, other_byte is_symbol 10 refl b h, other_byte is_symbol 13 refl b h) refl

pub white_symbol : (b : ℕ) → is_white b ≡ true → is_symbol b ≡ false
white_symbol b h = elim (cases_Bool (is_symbol b)) [
  | inl is ↦ absurd (both_ways (is_white b) (symbol_dark b is) h)
  | inr other ↦ other
]
