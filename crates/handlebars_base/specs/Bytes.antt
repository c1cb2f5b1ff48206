-- Texts as definitions see them, as lists of bytes in UTF-8, and the names of bytes.
use Rattle.std.specs.Prelude.{ℕ, Bool, ◌||◌, ◌==◌, nat_le, if◌then◌else◌, List, [], ◌∷◌}
use Rattle.std.specs.Char.{is_ascii_alphanumeric}

abbrev pub Text : Type 0
Text = List ℕ

abbrev pub tab : ℕ
tab = 9

abbrev pub newline : ℕ
newline = 10

abbrev pub carriage_return : ℕ
carriage_return = 13

abbrev pub space : ℕ
space = 32

abbrev pub double_quote : ℕ
double_quote = 34

abbrev pub dollar : ℕ
dollar = 36

abbrev pub ampersand : ℕ
ampersand = 38

abbrev pub single_quote : ℕ
single_quote = 39

abbrev pub hyphen : ℕ
hyphen = 45

abbrev pub dot : ℕ
dot = 46

abbrev pub slash : ℕ
slash = 47

abbrev pub colon : ℕ
colon = 58

abbrev pub less_than_sign : ℕ
less_than_sign = 60

abbrev pub equals_sign : ℕ
equals_sign = 61

abbrev pub greater_than_sign : ℕ
greater_than_sign = 62

abbrev pub at_sign : ℕ
at_sign = 64

abbrev pub left_bracket : ℕ
left_bracket = 91

abbrev pub backslash : ℕ
backslash = 92

abbrev pub right_bracket : ℕ
right_bracket = 93

abbrev pub underscore : ℕ
underscore = 95

abbrev pub backquote : ℕ
backquote = 96

abbrev pub left_brace : ℕ
left_brace = 123

abbrev pub right_brace : ℕ
right_brace = 125

-- a letter, a digit, `_`, `-`, `$`, `:`, or a byte of a character from U+0080 on
abbrev pub is_symbol : ℕ → Bool
is_symbol b =
    nat_le 128 b ||
    (is_ascii_alphanumeric b || (b == underscore || (b == hyphen || (b == dollar || b == colon))))

-- space, tab, newline and carriage return
abbrev pub is_white : ℕ → Bool
is_white b = (b == space) || ((b == tab) || ((b == newline) || (b == carriage_return)))

-- what follows the white space at the start
abbrev pub after_white : Text → Text
after_white [] = []
after_white (b ∷ t) = if is_white b then after_white t else b ∷ t
