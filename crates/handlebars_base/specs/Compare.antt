-- How two values are ordered.
use Rattle.std.specs.Prelude.{ℕ, ◌^◌, ℤ, pos, neg_ℤ, [], ◌∷◌, Bool, true, false, ◌&&◌, ◌==◌, nat_lt, nat_le, if◌then◌else◌, Option, Some, None, option_map}
use Rattle.std.specs.Ordering.{nat_cmp, int_cmp, bool_cmp}
use Rattle.std.specs.declared.cmp.Ordering.{Ordering}
use Rattle.std.specs.Cmp.Lexicographic.{slice_cmp}
use Rattle.std.specs.Str.{all_ascii_digits}
use Rattle.std.specs.Str.Parse.{digits_value}
use Rattle.serde_json.specs.Data.{Data, null, boolean, number, string, array, object}
use Rattle.serde_json.specs.Find.{as_bool, as_str, as_integer}
use Rattle.handlebars_base.specs.Bytes.{Text}
use Rattle.handlebars_base.specs.Optional.{◌>>=◌, with_or}

-- ---- the number that a text spells

abbrev pub is_empty : Text → Bool
is_empty [] = true
is_empty (b ∷ t) = false

-- `0`, or digits that don't begin with a zero, below 2^64
abbrev pub spelled_digits : Text → Option ℕ
spelled_digits [] = None
spelled_digits (b ∷ t) =
    if b == 48 then (if is_empty t then Some 0 else None)
    else (if all_ascii_digits (b ∷ t) && nat_lt (digits_value 10 (b ∷ t)) (2 ^ 64)
    then Some (digits_value 10 (b ∷ t)) else None)

-- after a minus: not zero, and at most 2^63
abbrev pub below_zero : ℕ → Option ℤ
below_zero n = if nat_lt 0 n && nat_le n (2 ^ 63) then Some (neg_ℤ (pos n)) else None

abbrev pub spelled_number : Text → Option ℤ
spelled_number [] = None
spelled_number (b ∷ t) = if b == 45 then spelled_digits t >>= below_zero else option_map pos (spelled_digits (b ∷ t))

-- ---- order

-- the integer that a number is, or that a text spells
abbrev pub integer_of : Data → Option ℤ
integer_of null = None
integer_of (boolean b) = None
integer_of (number n) = as_integer n
integer_of (string s) = spelled_number s
integer_of (array ds) = None
integer_of (object ms) = None

abbrev pub integers_compared : Option ℤ → Option ℤ → Option Ordering
integers_compared x y = x >>= λ a. option_map (int_cmp a) y

-- Two texts are ordered by their bytes. A text and a number are ordered by the number that the text spells.
abbrev pub text_compared : Text → Data → Option Ordering
text_compared s e = with_or (as_str e) (λ t. Some (slice_cmp nat_cmp s t)) (integers_compared (spelled_number s) (integer_of e))

-- Numbers are ordered by value, and false is below true. No other two values are ordered.
abbrev pub compared : Data → Data → Option Ordering
compared null e = None
compared (boolean b) e = option_map (bool_cmp b) (as_bool e)
compared (number n) e = integers_compared (as_integer n) (integer_of e)
compared (string s) e = text_compared s e
compared (array ds) e = None
compared (object ms) e = None
