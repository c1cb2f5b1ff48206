-- The length of the reference at the start of a text.
use Rattle.std.proofs.Common.{◌≡◌, ℕ, zero, suc, ◌+◌, ◌<◌, ◌≤◌, Bool, true, false, List, [], ◌∷◌, length, ltb, get_or, drop, None, refl, sym, ap, ◌∙◌, arith, inl, inr}
use Rattle.std.specs.Prelude.{◌==◌, not, is_some}
use Rattle.std.specs.List.{position, position_or_len, prefix_len}
use Rattle.std.specs.Str.{IsCharBoundary}
use Rattle.std.proofs.lemmas.Bool.{or_parts, eqb-true, ne_eqb, ltb-true, ltb-false, cases_Bool, both_ways}
use Rattle.handlebars_base.specs.PathReading.{is_reference_byte, increment_nonzero, reference_from, reference_len}
use Rattle.handlebars_base.specs.Texts.{after_byte}
use Rattle.handlebars_base.specs.Bytes.{is_symbol}
use Rattle.handlebars_base.proofs.Bytes.{no_symbol_ascii}

-- ---- whether it continues

positive : (n : ℕ) → 0 < n → true ≡ not (n == 0)
positive n some = rw (ne_eqb n 0 (λ none. absurd (omega arith))) refl

more-positive : (n : ℕ) → 0 < n → 0 < increment_nonzero n
more-positive zero some = some
more-positive (suc n) some = omega arith

closed-positive : (r : List ℕ) → position_or_len (λ b. b == 93) r < length r → 0 < reference_from true r
unfolding reference_from
closed-positive [] lt = absurd (omega arith)
closed-positive (x ∷ xs) lt =
    elim (cases_Bool (x == 93)) [
      | inl closes ↦ rw closes (omega arith)
      | inr other ↦
          let after : position_or_len (λ b. b == 93) xs < length xs = omega (arith, rw other at lt) in
          rw other (more-positive (reference_from true xs) (closed-positive xs after))
    ]

open-zero : (r : List ℕ) → length r ≤ position_or_len (λ b. b == 93) r → reference_from true r ≡ 0
unfolding reference_from
open-zero [] le = refl
open-zero (x ∷ xs) le =
    elim (cases_Bool (x == 93)) [
      | inl closes ↦ absurd (let none : length xs + 1 ≤ 0 = omega (arith, rw closes at le) in omega arith)
      | inr other ↦
          let after : length xs ≤ position_or_len (λ b. b == 93) xs = omega (arith, rw other at le) in
          rw other (ap increment_nonzero (open-zero xs after))
    ]

pub goes_on-nil : (t : List ℕ) → length t ≡ 0 → false ≡ not (reference_len t == 0)
unfolding reference_from
goes_on-nil [] e = refl
goes_on-nil (x ∷ xs) e = absurd (omega arith)

pub goes_on-bracket : (t : List ℕ) → 0 < length t → get_or t 0 0 ≡ 91 →
    is_some (position (λ b. b == 93) (drop 1 t)) ≡ not (reference_len t == 0)
unfolding reference_from
goes_on-bracket [] some opens = absurd (omega arith)
goes_on-bracket (x ∷ xs) some opens =
    elim (cases_Bool (ltb (position_or_len (λ b. b == 93) xs) (length xs))) [
      | inl closed ↦
          let within = closed-positive xs (ltb-true (position_or_len (λ b. b == 93) xs) (length xs) closed) in
          rw (opens, closed) (positive (increment_nonzero (reference_from true xs)) (more-positive (reference_from true xs) within))
      | inr never ↦
          let none = open-zero xs (ltb-false (position_or_len (λ b. b == 93) xs) (length xs) never) in
          rw (opens, never, none) refl
    ]

pub goes_on-byte : (t : List ℕ) → 0 < length t → (get_or t 0 0 ≡ 91 → ⊥) →
    is_reference_byte (get_or t 0 0) ≡ not (reference_len t == 0)
unfolding reference_from
goes_on-byte [] some other = absurd (omega arith)
goes_on-byte (x ∷ xs) some other =
    elim (cases_Bool (is_reference_byte x)) [
      | inl on ↦ rw (ne_eqb x 91 other, on) (positive (suc (reference_len xs)) (omega arith))
      | inr stop ↦ rw (ne_eqb x 91 other, stop) refl
    ]

-- ---- where it ends

increment_nonzero-le : (k : ℕ) → increment_nonzero k ≤ suc k
increment_nonzero-le zero = omega arith
increment_nonzero-le (suc k) = omega arith

from-le : (within : Bool) (t : List ℕ) → reference_from within t ≤ length t
unfolding reference_from
from-le within [] = omega arith
from-le true (x ∷ xs) =
    elim (cases_Bool (x == 93)) [
      | inl closes ↦ rw closes (omega (arith, from-le false xs))
      | inr other ↦ rw other (omega (arith, from-le true xs, increment_nonzero-le (reference_from true xs)))
    ]
from-le false (x ∷ xs) =
    elim (cases_Bool (x == 91)) [
      | inl opens ↦ rw opens (omega (arith, from-le true xs, increment_nonzero-le (reference_from true xs)))
      | inr other ↦ elim (cases_Bool (is_reference_byte x)) [
        | inl on ↦ rw (other, on) (omega (arith, from-le false xs))
        | inr stop ↦ rw (other, stop) (omega arith)
      ]
    ]

pub reference_len-le : (t : List ℕ) → reference_len t ≤ length t
reference_len-le t = from-le false t

-- One byte earlier in brackets: the byte at the end stays known, if the brackets are closed.
past : (x : ℕ) (xs : List ℕ) (k : ℕ) → (0 < k → k < length xs → get_or xs k 0 < 128) → 0 < increment_nonzero k →
    increment_nonzero k < suc (length xs) → get_or (x ∷ xs) (increment_nonzero k) 0 < 128
past x xs zero below some lt = absurd (omega arith)
past x xs (suc k) below some lt = below (omega arith) (omega arith)

-- At the opening bracket the byte at the end is known in any case.
opens_at : (x : ℕ) (xs : List ℕ) (k : ℕ) → x < 128 → (0 < k → k < length xs → get_or xs k 0 < 128) →
    increment_nonzero k < suc (length xs) → get_or (x ∷ xs) (increment_nonzero k) 0 < 128
opens_at x xs zero small below lt = small
opens_at x xs (suc k) small below lt = below (omega arith) (omega arith)

no_reference_ascii : (b : ℕ) → is_reference_byte b ≡ false → b < 128
no_reference_ascii b h = no_symbol_ascii b (or_parts _ _ h).0

-- The byte after a reference is ASCII. In brackets that are never closed nothing is known.
from_end : (within : Bool) (t : List ℕ) → (within ≡ true → 0 < reference_from within t) →
    reference_from within t < length t → get_or t (reference_from within t) 0 < 128
unfolding reference_from
from_end within [] some lt = absurd (omega arith)
from_end true (x ∷ xs) some lt =
    elim (cases_Bool (x == 93)) [
      | inl closes ↦ rw closes (from_end false xs (λ no. absurd cc) (omega (arith, rw closes at lt)))
      | inr other ↦
          let below = λ (pos : 0 < reference_from true xs) (lt : reference_from true xs < length xs). from_end true xs (λ _. pos) lt in
          rw other (past x xs (reference_from true xs) below (rw other at some refl) (rw other at lt))
    ]
from_end false (x ∷ xs) some lt =
    elim (cases_Bool (x == 91)) [
      | inl opens ↦
          let below = λ (pos : 0 < reference_from true xs) (lt : reference_from true xs < length xs). from_end true xs (λ _. pos) lt in
          let same : x ≡ 91 = eqb-true x 91 opens in
          rw opens (opens_at x xs (reference_from true xs) (omega arith) below (rw opens at lt))
      | inr other ↦ elim (cases_Bool (is_reference_byte x)) [
        | inl on ↦ rw (other, on) (from_end false xs (λ no. absurd cc) (omega (arith, rw (other, on) at lt)))
        | inr stop ↦ rw (other, stop) (no_reference_ascii x stop)
      ]
    ]

-- so a text may be split there
pub reference_len_boundary : (t : List ℕ) → IsCharBoundary t (reference_len t)
reference_len_boundary t = (
  reference_len-le t,
  λ lt le.
      let small : get_or t (reference_len t) 0 < 128 = from_end false t (λ no. absurd cc) lt in
      absurd (omega arith),
)

-- ---- where no reference continues

no_reference : (x : ℕ) (t : List ℕ) → reference_len (x ∷ t) ≡ 0 → (x == 91) ≡ false → is_reference_byte x ≡ false
unfolding reference_from
no_reference x t e other =
    elim (cases_Bool (is_reference_byte x)) [
      | inl on ↦ absurd (let some : suc (reference_len t) ≡ 0 = rw (other, on) at e in omega arith)
      | inr stop ↦ stop
    ]

-- there is no symbol
pub prefix_len-end : (t : List ℕ) → reference_len t ≡ 0 → prefix_len is_symbol t ≡ 0
prefix_len-end [] e = refl
prefix_len-end (x ∷ t) e =
    elim (cases_Bool (x == 91)) [
      | inl opens ↦ let same : x ≡ 91 = eqb-true x 91 opens in rw same refl
      | inr other ↦ rw ((or_parts (is_symbol x) _ (no_reference x t e other)).0) refl
    ]

-- and no mark that belongs to a reference
pub after_byte-end : (c : ℕ) (t : List ℕ) → is_reference_byte c ≡ true → (c == 91) ≡ false → reference_len t ≡ 0 → after_byte c t ≡ None
unfolding after_byte
after_byte-end c [] on other e = refl
after_byte-end c (x ∷ t) on other e =
    elim (cases_Bool (x == c)) [
      | inl yea ↦
          let same : x ≡ c = eqb-true x c yea in
          let no : is_reference_byte c ≡ false = ap is_reference_byte (sym same) ∙ no_reference x t e (ap (λ (b : ℕ). b == 91) same ∙ other) in
          absurd (both_ways (is_reference_byte c) no on)
      | inr nay ↦ rw nay refl
    ]
