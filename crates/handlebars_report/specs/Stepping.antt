-- A position and one more character.
use Rattle.std.specs.Prelude.{ℕ, ◌+◌, ◌<◌, ◌^◌, if◌then◌else◌}
use Rattle.std.specs.Char.{is_newline, len_utf8}
use Rattle.handlebars_report.specs.declared.position.Position.{Position}

-- the position after one more character
abbrev pub stepped : Position → ℕ → Position
stepped p c = if is_newline c
    then record { offset = p.offset + len_utf8 c; line = p.line + 1; column = 1 }
    else record { offset = p.offset + len_utf8 c; line = p.line; column = p.column + 1 }

-- there is room for one more character
pub record HasRoom (p : Position) : Type 0 where
  pub offset : p.offset + 4 < 2 ^ 64
  pub line : p.line + 1 < 2 ^ 64
  pub column : p.column + 1 < 2 ^ 64
