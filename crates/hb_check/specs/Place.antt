-- Where problems are.
use Rattle.std.specs.Prelude.{ℕ, [], Option, None, Some, unwrap_or}
use Rattle.handlebars_base.specs.Bytes.{Text}
use Rattle.handlebars_report.specs.Place.{IsPlaceIn}
use Rattle.handlebars_report.specs.Problem.{Place}
use Rattle.handlebars_syntax.specs.Range.{IsTagRange}
use Rattle.hb_check.specs.Sources.{source_under}
use Rattle.hb_check.specs.declared.sources.Source.{Source}
use Rattle.hb_check.specs.declared.sources.Sources.{Sources}

-- The place, in a text, of the tag at this line and column, both from 1, or of the rest of the line if there is no tag.
pub record IsAt (path text : Text) (line column : ℕ) (p : Place) : Type 0 where
  pub lies : IsPlaceIn path text p
  pub tag : IsTagRange text line column p.start.offset p.end.offset

-- in the file of this template; what has no template is in no file
abbrev pub IsInSource : Option Source → Option ℕ → Option ℕ → Place → Type 0
IsInSource None line column p = IsPlaceIn [] [] p
IsInSource (Some s) line column p = IsAt s.path.now s.text.now (unwrap_or line 1) (unwrap_or column 1) p

-- in the file of the template of this name, at this line and column, or at its start if these aren't known
abbrev pub IsPlaced : Sources → Option Text → Option ℕ → Option ℕ → Place → Type 0
IsPlaced ss None line column p = IsInSource None line column p
IsPlaced ss (Some n) line column p = IsInSource (source_under ss n) line column p
