-- Tests of the commonest texts, whose JSON is obvious.
use Rattle.std.specs.Prelude.{ℕ, Bool, false, not, ◌==◌, ◌&&◌, nat_le, [], ◌∷◌}
use Rattle.json.specs.Ascii.{zero, space}
use Rattle.handlebars_base.specs.Bytes.{Text, double_quote, single_quote, backslash}

-- a `0` before other digits, which JSON rejects
abbrev pub has_leading_zero : Text → Bool
has_leading_zero [] = false
has_leading_zero (b ∷ []) = false
has_leading_zero (b ∷ c ∷ t) = b == zero

-- a byte that stands for itself between quotes: no quote, no backslash and no control
abbrev pub is_plain_byte : ℕ → Bool
is_plain_byte b = not (b == double_quote) && (not (b == backslash) && nat_le space b)

abbrev pub is_not_single : ℕ → Bool
is_not_single b = not (b == single_quote)
