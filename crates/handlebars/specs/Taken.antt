-- What a writer reports after what it has taken.
use Rattle.std.specs.Prelude.{◌≡◌, ◌++◌, Option, Some}
use Rattle.handlebars_base.specs.Bytes.{Text}

-- If it reported at first that it held a text, it reports now that text followed by what it has taken.
abbrev pub ReportsTaken : Option Text → Text → Option Text → Type 0
ReportsTaken first taken now = (held : Text) → first ≡ Some held → now ≡ Some (held ++ taken)
