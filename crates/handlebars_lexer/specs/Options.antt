-- How a source is compiled.
use Rattle.std.specs.Prelude.{Bool, true, false, Option, None, Some}
use Rattle.handlebars_base.specs.Bytes.{Text}

-- the name of the template, if it has one; whether partials are not indented; and whether there are sections, so that a path
-- may name a block
pub record Options : Type 0 where
  pub name : Option Text
  pub prevent_indent : Bool
  pub sections : Bool

-- The default options: no name, indented partials, and sections.
abbrev pub no_options : Options
no_options = record { name = None; prevent_indent = false; sections = true }

-- the default options with a name
abbrev pub named_options : Text → Options
named_options n = record no_options { name = Some n }
