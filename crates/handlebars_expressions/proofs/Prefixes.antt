-- Runs and quotes at the start of a text.
use Rattle.std.proofs.Common.{◌≡◌, ℕ, ◌<◌, Bool, true, false, cond, not, List, [], ◌∷◌, ◌++◌, get_or, Some, refl, ap, arith, inl, inr}
use Rattle.std.specs.Prelude.{◌==◌}
use Rattle.std.specs.List.{prefix_len, AllByRecursion}
use Rattle.std.specs.Str.{IsCharBoundary}
use Rattle.std.proofs.lemmas.Bool.{eqb-true, eqb-false, or_parts, cases_Bool, not-true, and_parts}
use Rattle.std.proofs.lemmas.List.Sums.{prefix_len-le-length, prefix_len_stops}
use Rattle.std.proofs.lemmas.Option.{same_Some}
use Rattle.handlebars_base.specs.Bytes.{is_white, is_symbol}
use Rattle.handlebars_base.proofs.Bytes.{no_symbol_ascii, other_byte}
use Rattle.handlebars_base.specs.Texts.{starts}
use Rattle.handlebars_base.proofs.Runs.{prefix_len-none, run-prefix, run-rest}
use Rattle.handlebars_expressions.specs.Literal.{is_inner, continues_literal}
use Rattle.handlebars_expressions.specs.LiteralReading.{after_quote, run_of, after_run}

-- ---- runs

-- what continues no literal is ASCII
pub continues_literal-ascii : (b : ℕ) → continues_literal b ≡ false → b < 128
continues_literal-ascii b h = no_symbol_ascii b (or_parts (is_symbol b) _ h).0

-- and whitespace continues none
pub white_goes_on : (b : ℕ) → is_white b ≡ true → continues_literal b ≡ false
white_goes_on b h = elim (cases_Bool (continues_literal b)) [
  | inl is ↦
      let dark : is_white b ≡ false = rw (other_byte continues_literal 32 refl b is, other_byte continues_literal 9 refl b is, other_byte continues_literal 10 refl b is, other_byte continues_literal 13 refl b is) refl in
      absurd cc
  | inr other ↦ other
]

pub run_boundary : (t : List ℕ) → IsCharBoundary t (prefix_len continues_literal t)
run_boundary t = (
  prefix_len-le-length continues_literal t,
  λ lt le.
      let small : get_or t (prefix_len continues_literal t) 0 < 128 = continues_literal-ascii _ (prefix_len_stops continues_literal t 0 lt) in
      absurd (omega arith),
)

pub run_of-append : (n rest : List ℕ) → AllByRecursion (λ b. continues_literal b ≡ true) n → starts continues_literal rest ≡ false → run_of (n ++ rest) ≡ n
run_of-append n rest all stop = run-prefix continues_literal n rest all (prefix_len-none continues_literal rest stop)

pub after_run-append : (n rest : List ℕ) → AllByRecursion (λ b. continues_literal b ≡ true) n → starts continues_literal rest ≡ false → after_run (n ++ rest) ≡ rest
after_run-append n rest all stop = run-rest continues_literal n rest all (prefix_len-none continues_literal rest stop)

-- ---- texts in quotes

pub after_quote-append : (quote : ℕ) (escaped : Bool) (s rest : List ℕ) → is_inner quote escaped s ≡ true → after_quote quote escaped (s ++ quote ∷ rest) ≡ Some rest
after_quote-append quote true [] rest h = absurd cc
after_quote-append quote false [] rest h = elim (cases_Bool (quote == quote)) [
  | inl yea ↦ rw yea refl
  | inr nay ↦ absurd (eqb-false quote quote nay refl)
]
after_quote-append quote true (b ∷ s) rest h = after_quote-append quote false s rest h
after_quote-append quote false (b ∷ s) rest h =
    let both = and_parts (not (b == quote)) (is_inner quote (b == 92) s) h in
    rw (not-true (b == quote) both.0) (after_quote-append quote (b == 92) s rest both.1)

pub record Quoted (quote : ℕ) (escaped : Bool) (t r : List ℕ) : Type 0 where
  pub inner : List ℕ
  pub whole : t ≡ inner ++ quote ∷ r
  pub is : is_inner quote escaped inner ≡ true

pub after_quote-takes : (quote : ℕ) (escaped : Bool) (t r : List ℕ) → after_quote quote escaped t ≡ Some r → Quoted quote escaped t r
after_quote-takes quote true [] r e = absurd cc
after_quote-takes quote false [] r e = absurd cc
after_quote-takes quote true (b ∷ t) r e =
    let q = after_quote-takes quote false t r e in
    record { inner = b ∷ q.inner; whole = ap (λ (z : List ℕ). b ∷ z) q.whole; is = q.is }
after_quote-takes quote false (b ∷ t) r e = on (b == quote) refl e (after_quote-takes quote (b == 92) t r)
  where
    on : (c : Bool) → (b == quote) ≡ c → cond c (Some t) (after_quote quote (b == 92) t) ≡ Some r → (after_quote quote (b == 92) t ≡ Some r → Quoted quote (b == 92) t r) → Quoted quote false (b ∷ t) r
    on true is e again =
        let closes : b ≡ quote = eqb-true b quote is in
        let rest : t ≡ r = same_Some t r e in
        record { inner = []; whole = cc; is = refl }
    on false is e again =
        let q = again e in
        record { inner = b ∷ q.inner; whole = ap (λ (z : List ℕ). b ∷ z) q.whole; is = rw (is, q.is) refl }
