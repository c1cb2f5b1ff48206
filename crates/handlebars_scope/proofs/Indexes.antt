-- What `parse` returns, and what a few digits give, is the index that a name spells.
use Rattle.std.proofs.Common.{◌≡◌, ◌≤◌, ◌<◌, ◌+◌, ◌*◌, ◌^◌, ℕ, length, get_or, take, Some, None, Result, Ok, Err, Bool, true, false, ◌&&◌, cond, Decides, refl, ap, sym, subst, ◌∙◌, arith}
use Rattle.std.specs.Result.{OkIff, result_ok}
use Rattle.std.specs.Char.{digit_value}
use Rattle.std.specs.Int.{IsInRange}
use Rattle.std.specs.Str.Parse.{AllDigits, ParsesUnsigned, digits_value, without_leading_plus}
use Rattle.std.proofs.lemmas.Bool.{false≢true, lt-ltb}
use Rattle.std.proofs.lemmas.Bool.Decides.{Decides-ltb}
use Rattle.std.proofs.lemmas.Int.Digits.{digits_more, digits_value_more}
use Rattle.std.proofs.lemmas.List.{take_all}
use Rattle.std.proofs.lemmas.Str.Parse.{digit_at, digits_value_short, without_leading_plus_none}
use Rattle.handlebars_scope.specs.Resolve.{index_of}
use Rattle.handlebars_base.specs.Bytes.{Text}
use Rattle.handlebars_base.proofs.Digits.{digits}

-- a result that succeeds if three tests hold is the option that the tests choose
by_tests : {E : Type 0} (a b c : Bool) (v : ℕ) (P Q R : Type 0) (r : Result ℕ E) → OkIff r ((Q × P) × R) v
    → (a ≡ true → P) → (P → a ≡ true) → Decides b Q → Decides c R → result_ok r ≡ cond (a && (b && c)) (Some v) None
by_tests true true true v P Q R (Ok x) h f g b c = ap Some h.1
by_tests true true true v P Q R (Err e) h f g b c = absurd (h ((b.0 refl, f refl), c.0 refl))
by_tests true true false v P Q R (Ok x) h f g b c = absurd (false≢true (c.1 h.0.1))
by_tests true true false v P Q R (Err e) h f g b c = refl
by_tests true false d v P Q R (Ok x) h f g b c = absurd (false≢true (b.1 h.0.0.0))
by_tests true false d v P Q R (Err e) h f g b c = refl
by_tests false b d v P Q R (Ok x) h f g _ _ = absurd (false≢true (g h.0.0.1))
by_tests false b d v P Q R (Err e) h f g _ _ = refl

pub index_by_parse : {E : Type 0} (name : Text) (r : Result ℕ E) → ParsesUnsigned 64 10 name r → result_ok r ≡ index_of name
index_by_parse name r h =
    let ds = without_leading_plus name in
    by_tests _ _ _ _ _ _ _ r h (digits.to ds) (digits.from ds) (Decides-ltb _ _) (Decides-ltb _ _)

-- ---- a few digits

-- a name of nothing but digits spells their value
of_digits : (name : Text) → AllDigits 10 name → 0 < length name → length name ≤ 4 → index_of name ≡ Some (digits_value 10 name)
of_digits name all some few =
    let first : IsInRange 48 57 (get_or name 0 0) = digit_at name 0 all some in
    let plain : without_leading_plus name ≡ name = without_leading_plus_none name (omega arith) in
    let small : digits_value 10 name < 10 ^ 4 = digits_value_short digits name 4 (digits.from name all) few in
    rw (plain, digits.from name all, lt-ltb 0 (length name) some, lt-ltb (digits_value 10 name) (2 ^ 64) (omega arith)) refl

-- the digit at a position of a name
abbrev IsDigitAt : Text → ℕ → ℕ → Type 0
IsDigitAt name i d = (d ≡ digit_value (get_or name i 0)) × (d < 10)

-- this many bytes of a name are digits, and this is their value
record Reads (name : Text) (i v : ℕ) : Type 0 where
  digits : AllDigits 10 (take i name)
  value : v ≡ digits_value 10 (take i name)

no_digit : (name : Text) → Reads name 0 0
no_digit name = record { digits = tt; value = refl }

one_more : (name : Text) (i v d w : ℕ) → i < length name → Reads name i v → IsDigitAt name i d → w ≡ v * 10 + d → Reads name (i + 1) w
one_more name i v d w within r at is =
    record {
      digits = digits_more 10 name i within r.digits (omega (arith, at.0, at.1));
      value = let e = digits_value_more 10 name i within in omega (arith, e, r.value, at.0);
    }

throughout : (name : Text) (i v : ℕ) → length name ≡ i → 0 < i → i ≤ 4 → Reads name i v → index_of name ≡ Some v
throughout name i v all some few r =
    let e : take i name ≡ name = take_all i name (omega arith) in
    of_digits name (subst (AllDigits 10) e r.digits) (omega arith) (omega arith)
    ∙ ap Some (ap (digits_value 10) (sym e) ∙ sym r.value)

pub index_of-three : (name : Text) (a b c : ℕ) → length name ≡ 3 → IsDigitAt name 0 a → IsDigitAt name 1 b → IsDigitAt name 2 c
    → index_of name ≡ Some ((a * 10 + b) * 10 + c)
index_of-three name a b c three p q r =
    let one : Reads name 1 a = one_more name 0 0 a a (omega arith) (no_digit name) p (omega arith) in
    let two : Reads name 2 (a * 10 + b) = one_more name 1 a b _ (omega arith) one q refl in
    throughout name 3 _ three (omega arith) (omega arith) (one_more name 2 _ c _ (omega arith) two r refl)

pub index_of-four : (name : Text) (a b c d : ℕ) → length name ≡ 4 → IsDigitAt name 0 a → IsDigitAt name 1 b → IsDigitAt name 2 c
    → IsDigitAt name 3 d → index_of name ≡ Some (((a * 10 + b) * 10 + c) * 10 + d)
index_of-four name a b c d four p q r s =
    let one : Reads name 1 a = one_more name 0 0 a a (omega arith) (no_digit name) p (omega arith) in
    let two : Reads name 2 (a * 10 + b) = one_more name 1 a b _ (omega arith) one q refl in
    let three : Reads name 3 ((a * 10 + b) * 10 + c) = one_more name 2 _ c _ (omega arith) two r refl in
    throughout name 4 _ four (omega arith) (omega arith) (one_more name 3 _ d _ (omega arith) three s refl)
