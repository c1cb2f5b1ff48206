-- Prefixes and suffixes of texts.
use Rattle.std.specs.Prelude.{◌≡◌, ℕ, Bool, true, false, ◌==◌, if◌then◌else◌, [], ◌∷◌, ◌++◌, take, drop, Option, Some, None}
use Rattle.std.specs.List.{AllByRecursion, prefix_len}
use Rattle.handlebars_base.specs.Bytes.{Text, is_white, is_symbol}

-- the text starts with a byte of that kind
abbrev pub starts : (ℕ → Bool) → Text → Bool
starts p [] = false
starts p (b ∷ t) = p b

-- what follows the mark `c`, if the text starts with it
unfoldable pub after_byte : ℕ → Text → Option Text
after_byte c [] = None
after_byte c (x ∷ xs) = if x == c then Some xs else None

-- the longest prefix of symbols, and what follows it
abbrev pub symbols_of : Text → Text
symbols_of t = take (prefix_len is_symbol t) t

abbrev pub after_symbols : Text → Text
after_symbols t = drop (prefix_len is_symbol t) t

-- white space alone, or nothing
abbrev pub IsWhite : Text → Type 0
IsWhite w = AllByRecursion (λ b. is_white b ≡ true) w

-- the rest is a suffix of the text
abbrev pub IsSuffix : Text → Text → Type 0
IsSuffix text rest = (prefix : Text) × (text ≡ prefix ++ rest)
