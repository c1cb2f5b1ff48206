-- Places in the text of a file.
use Rattle.std.specs.Prelude.{◌≡◌, ℕ, ◌-◌, ◌<◌, ◌≤◌, [], chars, take, slice_get, unwrap_or, IsCharBoundary}
use Rattle.std.specs.Str.Lines.{lines}
use Rattle.handlebars_report.specs.Position.{Text, position_after}
use Rattle.handlebars_report.specs.Problem.{Place}

-- The text of a line, without its line break. It is empty if the text has no such line, as after a line break at its end.
abbrev pub line_text : Text → ℕ → Text
line_text text line = unwrap_or (slice_get (lines text) (line - 1)) []

-- A place in the text of a file: a range between two characters, in order, with the line on which it starts.
pub record IsPlaceIn (path text : Text) (p : Place) : Type 0 where
  pub in_file : p.path ≡ path
  pub ordered : p.start.offset ≤ p.end.offset
  pub starts : IsCharBoundary text p.start.offset
  pub ends : IsCharBoundary text p.end.offset
  pub start : p.start ≡ position_after (chars (take p.start.offset text))
  pub end : p.end ≡ position_after (chars (take p.end.offset text))
  pub line : p.line_text ≡ line_text text p.start.line

-- the last offset up to this one that is between two characters, or at an end of the text
pub record IsFloor (text : Text) (offset floor : ℕ) : Type 0 where
  pub up_to : floor ≤ offset
  pub boundary : IsCharBoundary text floor
  pub last : (n : ℕ) → floor < n → n ≤ offset → ¬ IsCharBoundary text n
