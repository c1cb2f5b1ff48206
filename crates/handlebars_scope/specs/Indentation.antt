-- Texts with indentation: before a text that begins a line, and between the lines of a text.
use Rattle.std.specs.Prelude.{ℕ, Bool, false, ◌&&◌, ◌||◌, ◌==◌, not, if◌then◌else◌, List, [], ◌∷◌, ◌++◌}
use Rattle.handlebars_base.specs.Bytes.{Text, newline, carriage_return}
use Rattle.handlebars_scope.specs.LineState.{LineState}

-- the lines with one more byte at the start of the first one
abbrev pub longer : ℕ → List Text → List Text
longer b [] = (b ∷ []) ∷ []
longer b (l ∷ ls) = (b ∷ l) ∷ ls

-- the lines of a text, each with the newline that ends it; no empty line follows a newline at the end of the text
abbrev pub lines_of : Text → List Text
lines_of [] = []
lines_of (b ∷ t) = if b == newline then (b ∷ []) ∷ lines_of t else longer b (lines_of t)

-- the lines, with the indentation between them
abbrev pub between : Text → List Text → Text
between indent [] = []
between indent (l ∷ []) = l
between indent (l ∷ m ∷ ls) = l ++ (indent ++ between indent (m ∷ ls))

-- the text with the indentation after each newline that isn't its last byte
abbrev pub indented : Text → Text → Text
indented indent t = between indent (lines_of t)

-- the text begins with the end of a line
abbrev pub begins_with_end : Text → Bool
begins_with_end [] = false
begins_with_end (b ∷ t) = (b == newline) || (b == carriage_return)

-- Whether the indentation is written before a text: the line is to have some, and the text isn't empty and doesn't end the
-- line at once.
abbrev pub takes_indent : LineState → Text → Bool
takes_indent line [] = false
takes_indent line (b ∷ t) = line.before && not (begins_with_end (b ∷ t))

-- what is written before it
abbrev pub indent_before : Text → LineState → Text → Text
indent_before indent line t = if takes_indent line t then indent else []

-- what is written for a text, with an indentation; with an empty one that is the text alone
abbrev pub written_in : Text → LineState → Text → Text
written_in indent line t = indent_before indent line t ++ indented indent t
