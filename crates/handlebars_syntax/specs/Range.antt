-- Ranges of a source, in bytes.
use Rattle.std.specs.Prelude.{◌≡◌, ℕ, ◌+◌, ◌≤◌, ◌||◌, ◌==◌, Bool, true, not, ◌++◌, drop, length, max, IsCharBoundary}
use Rattle.std.specs.List.{prefix_len}
use Rattle.handlebars_base.specs.Bytes.{Text, newline, carriage_return}
use Rattle.handlebars_lexer.specs.Tag.{Tag, Tildes, IsTag, NoTag}
use Rattle.handlebars_report.specs.Position.{IsOffsetOf}
use Rattle.handlebars_syntax.specs.declared.problem.SyntaxNote.{SyntaxNote}

-- A range lies in a source: its bounds are in order, and each is between two characters or at an end.
pub record LiesIn (source : Text) (start end : ℕ) : Type 0 where
  pub ordered : start ≤ end
  pub starts : IsCharBoundary source start
  pub ends : IsCharBoundary source end

abbrev pub IsNoteIn : Text → SyntaxNote → Type 0
IsNoteIn source note = LiesIn source note.range.start note.range.end

-- the bytes up to the end of a line: those before a newline or a carriage return, or all
abbrev pub is_in_line : ℕ → Bool
is_in_line byte = not ((byte == newline) || (byte == carriage_return))

-- From this offset on a tag is there, and the range is its token; or no tag is there, and the range is the rest of the line.
pub data IsTagFrom (source : Text) (start : ℕ) : ℕ → Type 0 where
  a_tag : (token rest : Text) (tag : Tag) (tildes : Tildes) → drop start source ≡ token ++ rest → IsTag true token rest tag tildes
      → IsTagFrom source start (start + length token)
  no_tag : NoTag true (drop start source) → IsTagFrom source start (start + prefix_len is_in_line (drop start source))

-- The range of the tag at a line and a column, which are counted from 1.
pub record IsTagRange (source : Text) (line column start end : ℕ) : Type 0 where
  pub at : IsOffsetOf source (max line 1) (max column 1) start
  pub tag : IsTagFrom source start end
