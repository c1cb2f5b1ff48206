-- The marks of html in a text.
use Rattle.std.specs.Prelude.{◌≡◌, IfSome, Option}
use Rattle.std.specs.Borrow.{Bor}
use Rattle.handlebars_base.specs.Bytes.{Text}
use Rattle.handlebars_base.specs.EscapeLaws.{marks_in}

-- The text has these marks, if any are expected.
abbrev pub HasMarks : Text → Option (Bor Text) → Type 0
HasMarks text expected = IfSome expected (λ marks. marks_in text ≡ marks.now)
