-- The pieces that a run writes, each with its origin.
use Rattle.std.specs.Prelude.{ℕ, List, [], ◌∷◌, ◌++◌, Bool, if◌then◌else◌, Option, None, Some}
use Rattle.handlebars_base.specs.Bytes.{Text}
use Rattle.handlebars_base.specs.Scoped.{Found}
use Rattle.handlebars_scope.specs.Indentation.{lines_of, takes_indent}
use Rattle.handlebars_scope.specs.LineState.{LineState, line_after_text}
use Rattle.handlebars_semantics.specs.Occurrences.{Occurrence}

-- The origin of a piece: a text element; a value that is rendered and escaped; a value that is rendered and not escaped; the
-- text of a boolean helper; the text of a step, counted from 0, of a user-defined helper; or the indentations of inclusions,
-- which the element at the occurrence writes.
pub data Origin : Type 0 where
  of_text : Occurrence → Origin
  of_value : Occurrence → Found → Origin
  of_raw : Occurrence → Found → Origin
  of_boolean_text : Occurrence → Bool → Origin
  of_step : Occurrence → ℕ → Origin
  of_indent : Occurrence → Origin

-- the occurrence of the element that writes
abbrev pub occurrence_of : Origin → Occurrence
occurrence_of (of_text occurrence) = occurrence
occurrence_of (of_value occurrence found) = occurrence
occurrence_of (of_raw occurrence found) = occurrence
occurrence_of (of_boolean_text occurrence b) = occurrence
occurrence_of (of_step occurrence i) = occurrence
occurrence_of (of_indent occurrence) = occurrence

pub record Piece : Type 0 where
  pub origin : Origin
  pub text : Text

-- the text of the pieces
abbrev pub join : List Piece → Text
join [] = []
join (p ∷ ps) = p.text ++ join ps

-- an empty text gives no piece, any other gives one
abbrev pub pieces_of : Origin → Text → List Piece
pieces_of o [] = []
pieces_of o (b ∷ t) = record { origin = o; text = b ∷ t } ∷ []

-- ---- putting a text

-- an indentation, as a piece of what an element writes
abbrev pub indent_pieces : Origin → Text → List Piece
indent_pieces o indent = pieces_of (of_indent (occurrence_of o)) indent

-- the lines of a text, each a piece, with the indentation between them
abbrev pub pieces_between : Origin → List Piece → List Text → List Piece
pieces_between o indent [] = []
pieces_between o indent (l ∷ []) = record { origin = o; text = l } ∷ []
pieces_between o indent (l ∷ m ∷ ls) = record { origin = o; text = l } ∷ (indent ++ pieces_between o indent (m ∷ ls))

-- the indentation before the first of them, if it takes one
abbrev pub pieces_before : Origin → Text → Text → LineState → List Piece
pieces_before o indent t line = if takes_indent line t then indent_pieces o indent else []

-- The pieces of a text, with or without an indentation in force. The indentation is written before the text, if the state of
-- the line asks for it and the text doesn't begin with a line end, and after each newline in it that isn't its last byte.
-- Without an indentation the text is one piece.
abbrev pub pieces_put : Origin → Option Text → Text → LineState → List Piece
pieces_put o None t line = pieces_of o t
pieces_put o (Some indent) t line =
    pieces_before o indent t line ++ pieces_between o (indent_pieces o indent) (lines_of t)

-- A text is put, and the state of the line is then the one after it. An empty text does nothing.
abbrev pub put : Origin → Option Text → Text → LineState → List Piece × LineState
put o indent t line = (pieces_put o indent t line, line_after_text t line)
