-- What clauses see of a reader of JSON lines.
use Rattle.std.specs.Prelude.{◌≡◌, ℕ, Bool, true, false, List, [], Option, Some}
use Rattle.std.specs.List.{before_first, after_first}
use Rattle.handlebars_data.specs.Lines.{is_newline}
use Rattle.handlebars_data.specs.declared.error.DataError.{DataError}
use Rattle.handlebars_data.specs.declared.json_text.Numbers.{Numbers}
use Rattle.handlebars_data.specs.declared.lines.Lines.{Lines}

-- the reader of bytes
abbrev pub lines_reader : {R : Type 0} → Lines R → R
lines_reader s = s.reader

abbrev pub lines_numbers : {R : Type 0} → Lines R → Numbers
lines_numbers s = s.numbers

-- the line that was taken last, without its newline
abbrev pub lines_text : {R : Type 0} → Lines R → List ℕ
lines_text s = s.line.items

-- how many lines were taken
abbrev pub lines_taken : {R : Type 0} → Lines R → ℕ
lines_taken s = s.number

-- the error that stopped the reading
abbrev pub lines_failure : {R : Type 0} → Lines R → Option DataError
lines_failure s = s.failure

-- a line was taken from the bytes that were left, or there is none
abbrev pub TakesLine : Bool → List ℕ → List ℕ → Option (List ℕ) → Type 0
TakesLine false bytes line left = bytes ≡ []
TakesLine true bytes line left = (line ≡ before_first is_newline bytes) × (left ≡ Some (after_first is_newline bytes))
