-- What sections leave unchanged: the trees of sources that compile without them.
use Rattle.std.specs.Prelude.{true, false}
use Rattle.handlebars_base.specs.Bytes.{Text}
use Rattle.handlebars_lexer.specs.Options.{Options}
use Rattle.handlebars_template.specs.Tree.{Tree}
use Rattle.handlebars_template.specs.Compile.{Compiles, compiled}

abbrev pub without_sections : Options → Options
without_sections options = record options { sections = false }

abbrev pub options_with_sections : Options → Options
options_with_sections options = record options { sections = true }

-- Every source that compiles to a tree without sections compiles to the same tree with them.
abbrev pub TreesStay : Type 0
TreesStay = (source : Text) (options : Options) (t : Tree)
    → Compiles source (without_sections options) (compiled t) → Compiles source (options_with_sections options) (compiled t)
