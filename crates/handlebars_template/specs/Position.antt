-- The position at which a part of a source begins: line and column, both counted from 1, the column in characters.
use Rattle.std.specs.Prelude.{ℕ, ◌+◌, ◌==◌, if◌then◌else◌, fold}
use Rattle.std.specs.Str.{chars}
use Rattle.handlebars_base.specs.Bytes.{Text, newline}

pub record Position : Type 0 where
  pub line : ℕ
  pub column : ℕ

abbrev pub origin : Position
origin = record { line = 1; column = 1 }

-- the position after one character: a newline begins a line
abbrev pub after_char : Position → ℕ → Position
after_char p c =
    if c == newline
    then record { line = p.line + 1; column = 1 }
    else record { line = p.line; column = p.column + 1 }

-- the position after a text that begins at a position
abbrev pub position_after : Position → Text → Position
position_after p text = fold after_char p (chars text)

-- the position after a prefix of a source
abbrev pub position : Text → Position
position before = position_after origin before
