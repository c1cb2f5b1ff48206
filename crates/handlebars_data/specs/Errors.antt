-- Why data can't be read, and where.
use Rattle.std.specs.Prelude.{◌≡◌, ◌≤◌, ℕ, List, length, take}
use Rattle.handlebars_data.specs.Position.{position}
use Rattle.handlebars_data.specs.declared.error.DataError.{DataError}
use Rattle.handlebars_data.specs.declared.error.DataErrorKind.{DataErrorKind}
use Rattle.handlebars_data.specs.declared.error.DataErrorKind.TheVariants.{OutOfMemory}

abbrev pub kind_of : DataError → DataErrorKind
kind_of e = e.kind

-- the line, from 1; 0 without a position
abbrev pub line_of : DataError → ℕ
line_of e = e.line

-- the column in characters, from 1; 0 without a position
abbrev pub column_of : DataError → ℕ
column_of e = e.column

-- the line and the column
abbrev pub position_in : DataError → ℕ × ℕ
position_in e = (line_of e, column_of e)

-- the position is that of a part of the text, or of its end
abbrev pub LiesIn : List ℕ → DataError → Type 0
LiesIn text e = (n : ℕ) × (n ≤ length text) × (position_in e ≡ position (take n text))

abbrev pub IsMemory : DataError → Type 0
IsMemory e = kind_of e ≡ OutOfMemory
