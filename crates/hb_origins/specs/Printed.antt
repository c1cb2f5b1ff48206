-- How pieces are printed as lines.
use Rattle.std.specs.Prelude.{◌≡◌, [], ◌++◌, if◌then◌else◌, Option, Some}
use Rattle.handlebars_base.specs.Bytes.{Text}
use Rattle.handlebars_semantics.specs.Emitted.{Emitted}
use Rattle.hb_origins.specs.Line.{printed_text}
use Rattle.hb_origins.specs.Marks.{brings_mark}
use Rattle.hb_origins.specs.declared.form.Form.{Form}
use Rattle.hb_origins.specs.declared.form.Form.TheVariants.{Lines, Marks, Page}

-- How a piece is printed: as its line, or as that only if it brings in a mark. How it is printed on a page is left open.
abbrev pub printed_as : Form → Text → Emitted → Text
printed_as Lines first emitted = printed_text first emitted
printed_as Marks first emitted =
    if brings_mark emitted.provenance.kind emitted.text then printed_text first emitted else []
printed_as Page first emitted = []

-- Before, the writer held some text, and another one was buffered for it. After, this text is appended, and is held or
-- buffered. If the contract of the writer doesn't state what it holds, this states nothing.
abbrev pub PrintsAfter : Option Text → Text → Text → Option Text → Text → Type 0
PrintsAfter before gathered text after left =
    (held : Text) → before ≡ Some held → (now : Text) × (after ≡ Some now) × (now ++ left ≡ (held ++ gathered) ++ text)
