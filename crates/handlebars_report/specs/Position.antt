-- Positions in a text. Lines and columns are counted from 1, and columns in characters.
use Rattle.std.specs.Prelude.{◌≡◌, ◌≢◌, ℕ, ◌+◌, ◌<◌, ◌≤◌, List, [], ◌++◌, length, count_by, chars, encode_utf8_all}
use Rattle.std.specs.Char.{is_newline}
use Rattle.std.specs.List.{after_last}
use Rattle.handlebars_report.specs.declared.position.Position.{Position}

-- a text: bytes of UTF-8
abbrev pub Text : Type 0
Text = List ℕ

-- the line after these characters: 1, and 1 more for each newline
abbrev pub line_after : List ℕ → ℕ
line_after before = count_by is_newline before + 1

-- the column after these characters: 1, and 1 more for each character since the last newline
abbrev pub column_after : List ℕ → ℕ
column_after before = length (after_last is_newline before) + 1

-- the position after these characters
abbrev pub position_after : List ℕ → Position
position_after before = record { offset = length (encode_utf8_all before); line = line_after before; column = column_after before }

-- at this line and column, or before
abbrev pub IsUpTo : ℕ → ℕ → Position → Type 0
IsUpTo line column p = (p.line ≤ line) × (p.line ≡ line → p.column ≤ column)

-- after this line and column
abbrev pub IsAfter : ℕ → ℕ → Position → Type 0
IsAfter line column p = (line ≤ p.line) × (p.line ≡ line → column < p.column)

-- The offset of a line and a column: that of the last position of the text that is not after them. So it is the end of the line if
-- the column is past that, and the end of the text if the line is.
pub record IsOffsetOf (text : Text) (line column offset : ℕ) : Type 0 where
  pub before : List ℕ
  pub remaining : List ℕ
  pub parts : chars text ≡ before ++ remaining
  pub is : offset ≡ length (encode_utf8_all before)
  pub up_to : IsUpTo line column (position_after before)
  pub last : (more rest : List ℕ) → remaining ≡ more ++ rest → more ≢ [] → IsAfter line column (position_after (before ++ more))
