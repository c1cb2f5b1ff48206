-- The literals of tags: what each spells, when it fits, how deep its brackets nest, and whether its numbers are in range.
use Rattle.std.specs.Prelude.{◌≡◌, ℕ, suc, ◌^◌, Bool, true, false, not, ◌&&◌, ◌||◌, ◌==◌, nat_lt, nat_le, if◌then◌else◌, max, [], ◌∷◌, ◌++◌, length, Option, Some, None, is_some, codes}
use Rattle.std.specs.Char.{is_ascii_digit}
use Rattle.std.specs.List.{list_all, position_or_len, before_first, after_first}
use Rattle.std.specs.Str.{bytes_eq}
use Rattle.std.specs.Str.Parse.{digits_value}
use Rattle.handlebars_base.specs.Bytes.{Text, double_quote, single_quote, hyphen, dot, slash, colon, left_bracket, backslash, right_bracket, left_brace, right_brace, is_symbol}
use Rattle.handlebars_base.specs.Optional.{with_or}
use Rattle.handlebars_base.specs.Texts.{IsWhite, starts, after_byte}

abbrev pub comma : ℕ
comma = 44

abbrev pub capital_e : ℕ
capital_e = 69

-- ---- texts in quotes

-- What may be between quotes of a kind, after a backslash or not: such a quote only after a backslash, and no lone backslash at
-- the end.
abbrev pub is_inner : ℕ → Bool → Text → Bool
is_inner quote true [] = false
is_inner quote false [] = true
is_inner quote true (b ∷ t) = is_inner quote false t
is_inner quote false (b ∷ t) = not (b == quote) && is_inner quote (b == backslash) t

-- ---- numbers and words

-- digits, at least one
abbrev pub is_digits : Text → Bool
is_digits [] = false
is_digits (b ∷ t) = list_all is_ascii_digit (b ∷ t)

-- digits, optionally after a minus
abbrev pub is_integer : Text → Bool
is_integer [] = false
is_integer (b ∷ t) = if b == hyphen then is_digits t else is_digits (b ∷ t)

abbrev pub has : ℕ → Text → Bool
has mark t = nat_lt (position_or_len (λ b. b == mark) t) (length t)

abbrev pub up_to : ℕ → Text → Text
up_to mark t = before_first (λ b. b == mark) t

abbrev pub after_first_mark : ℕ → Text → Text
after_first_mark mark t = after_first (λ b. b == mark) t

-- an integer, and optionally a dot and digits after it
abbrev pub is_decimal : Text → Bool
is_decimal t = if has dot t then is_integer (up_to dot t) && is_digits (after_first_mark dot t) else is_integer t

-- a decimal, and optionally an `E` and an integer after it
abbrev pub is_number : Text → Bool
is_number t =
    if has capital_e t
    then is_decimal (up_to capital_e t) && is_integer (after_first_mark capital_e t)
    else is_decimal t

-- the number that digits spell, if it is below 2^64
unfoldable pub number_of : Text → Option ℕ
number_of t = if is_digits t && nat_lt (digits_value 10 t) (2 ^ 64) then Some (digits_value 10 t) else None

-- what may follow a minus: 1 to 2^63
abbrev pub is_in_range_below : ℕ → Bool
is_in_range_below n = nat_lt 0 n && nat_le n (2 ^ 63)

-- Whether a number is in range: an integer from -2^63 to 2^64 - 1, and not `-0`.
unfoldable pub is_in_range : Text → Bool
is_in_range t = with_or (after_byte hyphen t) (λ d. with_or (number_of d) is_in_range_below false) (is_some (number_of t))

abbrev pub is_word : Text → Bool
is_word t = bytes_eq t (codes "null") || (bytes_eq t (codes "true") || bytes_eq t (codes "false"))

-- ---- brackets

-- arrays are in square brackets, and objects in braces
pub data Bracket : Type 0 where
  array : Bracket
  object : Bracket

abbrev pub opener : Bracket → ℕ
opener array = left_bracket
opener object = left_brace

abbrev pub closer : Bracket → ℕ
closer array = right_bracket
closer object = right_brace

-- What leads to an entry: whitespace; or a key in double quotes and a colon, with whitespace before, between and after.
pub data Lead : Type 0 where
  unnamed : Text → Lead
  keyed : Text → Text → Text → Text → Lead

abbrev pub spelled_lead : Lead → Text
spelled_lead (unnamed w) = w
spelled_lead (keyed w key u v) = w ++ double_quote ∷ (key ++ double_quote ∷ (u ++ colon ∷ v))

-- entries of objects have keys, and those of arrays have none
abbrev pub IsLead : Bracket → Lead → Type 0
IsLead array (unnamed w) = IsWhite w
IsLead array (keyed w key u v) = ⊥
IsLead object (unnamed w) = ⊥
IsLead object (keyed w key u v) = IsWhite w × (is_inner double_quote false key ≡ true) × IsWhite u × IsWhite v

-- ---- literals

-- A text in quotes; a number or a word; brackets with whitespace alone; or brackets with entries.
mutual
  pub data Literal : Type 0 where
    quoted : Text → Literal
    single_quoted : Text → Literal
    number : Text → Literal
    word : Text → Literal
    empty : Bracket → Text → Literal
    filled : Bracket → Lead → Literal → Text → Entries → Literal

  -- what follows an entry and whitespace: the closing bracket, or a comma, another entry and whitespace
  pub data Entries : Type 0 where
    closing : Entries
    another : Lead → Literal → Text → Entries → Entries

abbrev mutual
  pub spelled_literal : Literal → Text
  spelled_literal (quoted t) = double_quote ∷ (t ++ double_quote ∷ [])
  spelled_literal (single_quoted t) = single_quote ∷ (t ++ single_quote ∷ [])
  spelled_literal (number t) = t
  spelled_literal (word t) = t
  spelled_literal (empty k w) = opener k ∷ (w ++ closer k ∷ [])
  spelled_literal (filled k lead l w more) =
      opener k ∷ (spelled_lead lead ++ (spelled_literal l ++ (w ++ spelled_entries k more)))

  pub spelled_entries : Bracket → Entries → Text
  spelled_entries k closing = closer k ∷ []
  spelled_entries k (another lead l w more) =
      comma ∷ (spelled_lead lead ++ (spelled_literal l ++ (w ++ spelled_entries k more)))

-- a text inside brackets is in double quotes
abbrev pub is_element : Literal → Bool
is_element (quoted t) = true
is_element (single_quoted t) = false
is_element (number t) = true
is_element (word t) = true
is_element (empty k w) = true
is_element (filled k lead l w more) = true

abbrev mutual
  pub IsLiteral : Literal → Type 0
  IsLiteral (quoted t) = is_inner double_quote false t ≡ true
  IsLiteral (single_quoted t) = is_inner single_quote false t ≡ true
  IsLiteral (number t) = is_number t ≡ true
  IsLiteral (word t) = is_word t ≡ true
  IsLiteral (empty k w) = IsWhite w
  IsLiteral (filled k lead l w more) =
      IsLead k lead × (is_element l ≡ true) × IsLiteral l × IsWhite w × AreEntries k more

  pub AreEntries : Bracket → Entries → Type 0
  AreEntries k closing = Unit {0}
  AreEntries k (another lead l w more) =
      IsLead k lead × (is_element l ≡ true) × IsLiteral l × IsWhite w × AreEntries k more

-- the greatest number of brackets open at once
abbrev mutual
  pub literal_depth : Literal → ℕ
  literal_depth (quoted t) = 0
  literal_depth (single_quoted t) = 0
  literal_depth (number t) = 0
  literal_depth (word t) = 0
  literal_depth (empty k w) = 1
  literal_depth (filled k lead l w more) = suc (max (literal_depth l) (entries_depth more))

  pub entries_depth : Entries → ℕ
  entries_depth closing = 0
  entries_depth (another lead l w more) = max (literal_depth l) (entries_depth more)

-- each number in it is in range, including that of a key that is repeated
abbrev mutual
  pub numbers_in_range : Literal → Bool
  numbers_in_range (quoted t) = true
  numbers_in_range (single_quoted t) = true
  numbers_in_range (number t) = is_in_range t
  numbers_in_range (word t) = true
  numbers_in_range (empty k w) = true
  numbers_in_range (filled k lead l w more) = numbers_in_range l && entries_in_range more

  pub entries_in_range : Entries → Bool
  entries_in_range closing = true
  entries_in_range (another lead l w more) = numbers_in_range l && entries_in_range more

-- ---- at the start of a text

-- a byte that no literal directly precedes: a symbol, `.` or `/`
abbrev pub continues_literal : ℕ → Bool
continues_literal b = is_symbol b || (b == dot || b == slash)

-- The text is that of a literal, and then a rest that does not continue it.
pub record IsLiteralAt (text : Text) (l : Literal) (rest : Text) : Type 0 where
  pub whole : text ≡ spelled_literal l ++ rest
  pub fits : IsLiteral l
  pub stops : starts continues_literal rest ≡ false
