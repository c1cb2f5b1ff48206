-- The state of the line that is being written, and how a text changes it.
use Rattle.std.specs.Prelude.{[], ◌∷◌, Bool, true, false, ◌||◌, ◌==◌}
use Rattle.handlebars_base.specs.Bytes.{Text, newline, carriage_return}

-- whether indentation goes before the next text, whether the last text ended a line, and whether there was one
pub record LineState : Type 0 where
  pub before : Bool
  pub trailing : Bool
  pub produced : Bool

abbrev pub first_line : LineState
first_line = record { before = false; trailing = false; produced = false }

-- the text ends with a newline or a carriage return
abbrev pub ends_line : Text → Bool
ends_line [] = false
ends_line (b ∷ []) = (b == newline) || (b == carriage_return)
ends_line (b ∷ c ∷ t) = ends_line (c ∷ t)

-- the line after a text, given whether the text ends a line
abbrev pub line_after : Bool → LineState
line_after ends = record { before = ends; trailing = ends; produced = true }

-- the line after a text; an empty text leaves it unchanged
abbrev pub line_after_text : Text → LineState → LineState
line_after_text [] line = line
line_after_text (b ∷ t) line = line_after (ends_line (b ∷ t))
