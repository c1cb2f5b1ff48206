-- Each byte of a number or a word may continue it.
use Rattle.std.proofs.Common.{◌≡◌, ℕ, zero, suc, ◌<◌, Bool, true, false, cond, ◌&&◌, ◌||◌, List, [], ◌∷◌, ◌++◌, length, get_or, take, refl, sym, ap, subst, ◌∙◌, arith, inl, inr, length-append}
use Rattle.std.specs.Prelude.{◌==◌, codes}
use Rattle.std.specs.Char.{is_ascii_digit, is_ascii_alphanumeric}
use Rattle.std.specs.List.{AllByRecursion, list_all, position_or_len}
use Rattle.std.specs.Str.{bytes_eq}
use Rattle.std.proofs.lemmas.Bool.{eqb-true, le-ltb, ltb-true, or_cases, or_parts, and_parts, or_left, or_right}
use Rattle.std.proofs.lemmas.Slice.Eq.{bytes_eq-Decides}
use Rattle.std.proofs.lemmas.List.Sums.{split_at_first, passes_at_first}
use Rattle.handlebars_base.specs.Bytes.{is_symbol}
use Rattle.handlebars_base.specs.Texts.{starts}
use Rattle.handlebars_base.proofs.Bytes.{other_byte}
use Rattle.handlebars_expressions.specs.LiteralReading.{begins_number}
use Rattle.handlebars_expressions.specs.Literal.{is_digits, is_integer, has, up_to, after_first_mark, is_decimal, is_number, is_word, continues_literal}

-- each byte continues a literal, and there is one
pub record ContinuesThroughout (t : List ℕ) : Type 0 where
  pub all : AllByRecursion (λ b. continues_literal b ≡ true) t
  pub some : 0 < length t

digit_goes_on : (b : ℕ) → is_ascii_digit b ≡ true → continues_literal b ≡ true
digit_goes_on b h =
    let letter : is_ascii_alphanumeric b ≡ true = or_left _ _ (or_left (is_ascii_digit b) _ h) in
    or_left (is_symbol b) _ (or_right _ _ (or_left (is_ascii_alphanumeric b) _ letter))

all_digits_go_on : (t : List ℕ) → list_all is_ascii_digit t ≡ true → AllByRecursion (λ b. continues_literal b ≡ true) t
all_digits_go_on [] h = tt
all_digits_go_on (b ∷ t) h =
    let both = and_parts (is_ascii_digit b) (list_all is_ascii_digit t) h in
    (digit_goes_on b both.0, all_digits_go_on t both.1)

all_append : (a b : List ℕ) → AllByRecursion (λ b. continues_literal b ≡ true) a → AllByRecursion (λ b. continues_literal b ≡ true) b → AllByRecursion (λ b. continues_literal b ≡ true) (a ++ b)
all_append [] b h g = g
all_append (x ∷ a) b h g = (h.0, all_append a b h.1 g)

digits_go_on : (t : List ℕ) → is_digits t ≡ true → ContinuesThroughout t
digits_go_on [] h = absurd cc
digits_go_on (b ∷ t) h = record { all = all_digits_go_on (b ∷ t) h; some = omega arith }

integer_goes_on : (t : List ℕ) → is_integer t ≡ true → ContinuesThroughout t
integer_goes_on [] h = absurd cc
integer_goes_on (b ∷ t) h = on (b == 45) refl h
  where
    on : (c : Bool) → (b == 45) ≡ c → cond c (is_digits t) (is_digits (b ∷ t)) ≡ true → ContinuesThroughout (b ∷ t)
    on true is h =
        let e : b ≡ 45 = eqb-true b 45 is in
        let first : continues_literal b ≡ true = ap continues_literal e in
        record { all = (first, (digits_go_on t h).all); some = omega arith }
    on false is h = digits_go_on (b ∷ t) h

-- a text around the first occurrence of a mark
around : (mark : ℕ) (t : List ℕ) → has mark t ≡ true → t ≡ up_to mark t ++ mark ∷ after_first_mark mark t
around mark t h =
    let lt : position_or_len (λ b. b == mark) t < length t = ltb-true (position_or_len (λ b. b == mark) t) (length t) h in
    let is : get_or t (position_or_len (λ b. b == mark) t) 0 ≡ mark = eqb-true _ mark (passes_at_first (λ b. b == mark) t 0 lt) in
    split_at_first (λ b. b == mark) t 0 lt ∙ ap (λ (z : ℕ). up_to mark t ++ z ∷ after_first_mark mark t) is

around_goes_on : (mark : ℕ) (t : List ℕ) → continues_literal mark ≡ true → has mark t ≡ true → ContinuesThroughout (up_to mark t) → ContinuesThroughout (after_first_mark mark t) → ContinuesThroughout t
around_goes_on mark t is h a b =
    let whole : up_to mark t ++ mark ∷ after_first_mark mark t ≡ t = sym (around mark t h) in
    let both : ContinuesThroughout (up_to mark t ++ mark ∷ after_first_mark mark t) = record {
      all = all_append (up_to mark t) (mark ∷ after_first_mark mark t) a.all (is, b.all);
      some = omega (arith, length-append (up_to mark t) (mark ∷ after_first_mark mark t));
    } in
    subst ContinuesThroughout whole both

decimal_goes_on : (t : List ℕ) → is_decimal t ≡ true → ContinuesThroughout t
decimal_goes_on t h = on (has 46 t) refl h
  where
    on : (c : Bool) → has 46 t ≡ c → cond c (is_integer (up_to 46 t) && is_digits (after_first_mark 46 t)) (is_integer t) ≡ true → ContinuesThroughout t
    on true is h =
        let both = and_parts (is_integer (up_to 46 t)) (is_digits (after_first_mark 46 t)) h in
        around_goes_on 46 t refl is (integer_goes_on (up_to 46 t) both.0) (digits_go_on (after_first_mark 46 t) both.1)
    on false is h = integer_goes_on t h

pub number_goes_on : (t : List ℕ) → is_number t ≡ true → ContinuesThroughout t
number_goes_on t h = on (has 69 t) refl h
  where
    on : (c : Bool) → has 69 t ≡ c → cond c (is_decimal (up_to 69 t) && is_integer (after_first_mark 69 t)) (is_decimal t) ≡ true → ContinuesThroughout t
    on true is h =
        let both = and_parts (is_decimal (up_to 69 t)) (is_integer (after_first_mark 69 t)) h in
        around_goes_on 69 t refl is (decimal_goes_on (up_to 69 t) both.0) (integer_goes_on (after_first_mark 69 t) both.1)
    on false is h = decimal_goes_on t h

-- ---- what begins as no number is none

integer-other : (b : ℕ) (t : List ℕ) → begins_number b ≡ false → is_integer (b ∷ t) ≡ false
integer-other b t h = let both = or_parts (is_ascii_digit b) (b == 45) h in rw (both.1, both.0) refl

either-false : (c a b d : Bool) → a ≡ false → d ≡ false → cond c (a && b) d ≡ false
either-false true a b d e f = rw e refl
either-false false a b d e f = f

integer-prefix : (b : ℕ) (t : List ℕ) (n : ℕ) → begins_number b ≡ false → is_integer (take n (b ∷ t)) ≡ false
integer-prefix b t zero h = refl
integer-prefix b t (suc n) h = integer-other b (take n t) h

decimal-other : (b : ℕ) (t : List ℕ) → begins_number b ≡ false → is_decimal (b ∷ t) ≡ false
decimal-other b t h =
    either-false (has 46 (b ∷ t)) (is_integer (up_to 46 (b ∷ t))) (is_digits (after_first_mark 46 (b ∷ t))) (is_integer (b ∷ t))
    (integer-prefix b t (position_or_len (λ x. x == 46) (b ∷ t)) h) (integer-other b t h)

decimal-prefix : (b : ℕ) (t : List ℕ) (n : ℕ) → begins_number b ≡ false → is_decimal (take n (b ∷ t)) ≡ false
decimal-prefix b t zero h = refl
decimal-prefix b t (suc n) h = decimal-other b (take n t) h

pub number-other : (t : List ℕ) → starts begins_number t ≡ false → is_number t ≡ false
number-other [] h = refl
number-other (b ∷ t) h =
    either-false (has 69 (b ∷ t)) (is_decimal (up_to 69 (b ∷ t))) (is_integer (after_first_mark 69 (b ∷ t))) (is_decimal (b ∷ t))
    (decimal-prefix b t (position_or_len (λ x. x == 69) (b ∷ t)) h) (decimal-other b t h)

-- ---- digits are a number

no_mark : (mark : ℕ) (t : List ℕ) → is_ascii_digit mark ≡ false → list_all is_ascii_digit t ≡ true → position_or_len (λ b. b == mark) t ≡ length t
no_mark mark [] other h = refl
no_mark mark (b ∷ t) other h =
    let both = and_parts (is_ascii_digit b) (list_all is_ascii_digit t) h in
    rw (other_byte is_ascii_digit mark other b both.0, no_mark mark t other both.1) (omega arith)

has-not : (mark : ℕ) (t : List ℕ) → is_ascii_digit mark ≡ false → list_all is_ascii_digit t ≡ true → has mark t ≡ false
has-not mark t other h = le-ltb _ (length t) (omega (arith, no_mark mark t other h))

pub no_minus : (b : ℕ) (t : List ℕ) → is_digits (b ∷ t) ≡ true → (b == 45) ≡ false
no_minus b t h = other_byte is_ascii_digit 45 refl b (and_parts (is_ascii_digit b) (list_all is_ascii_digit t) h).0

pub is_number-digits : (t : List ℕ) → is_digits t ≡ true → is_number t ≡ true
is_number-digits [] h = absurd cc
is_number-digits (b ∷ t) h = rw (has-not 69 (b ∷ t) refl h, has-not 46 (b ∷ t) refl h, no_minus b t h) h

-- ---- words and plain texts

same_bytes : (a b : List ℕ) → bytes_eq a b ≡ true → a ≡ b
same_bytes a b h = (bytes_eq-Decides a b).0 h

pub word_goes_on : (t : List ℕ) → is_word t ≡ true → ContinuesThroughout t
word_goes_on t h = elim (or_cases (bytes_eq t (codes "null")) _ h) [
  | inl is ↦ subst ContinuesThroughout (sym (same_bytes t (codes "null") is)) (record { all = (refl, (refl, (refl, (refl, tt)))); some = omega arith })
  | inr more ↦ elim (or_cases (bytes_eq t (codes "true")) _ more) [
    | inl is ↦ subst ContinuesThroughout (sym (same_bytes t (codes "true") is)) (record { all = (refl, (refl, (refl, (refl, tt)))); some = omega arith })
    | inr is ↦ subst ContinuesThroughout (sym (same_bytes t (codes "false") is)) (record { all = (refl, (refl, (refl, (refl, (refl, tt))))); some = omega arith })
  ]
]

pub plain_goes_on : (t : List ℕ) → (is_number t || is_word t) ≡ true → ContinuesThroughout t
plain_goes_on t h = elim (or_cases (is_number t) (is_word t) h) [
  | inl is ↦ number_goes_on t is
  | inr is ↦ word_goes_on t is
]

pub word_no_number : (t : List ℕ) → is_word t ≡ true → is_number t ≡ false
word_no_number t h = elim (or_cases (bytes_eq t (codes "null")) _ h) [
  | inl is ↦ ap is_number (same_bytes t (codes "null") is)
  | inr more ↦ elim (or_cases (bytes_eq t (codes "true")) _ more) [
    | inl is ↦ ap is_number (same_bytes t (codes "true") is)
    | inr is ↦ ap is_number (same_bytes t (codes "false") is)
  ]
]
