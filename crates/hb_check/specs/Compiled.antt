-- What files compile to, and what is reported of those that don't compile.
use Rattle.std.specs.Prelude.{◌≡◌, if◌then◌else◌, List, [], ◌∷◌, ◌++◌, Option, None, Some, false, true, option_map}
use Rattle.std.specs.Str.{bytes_eq}
use Rattle.handlebars_base.specs.Bytes.{Text}
use Rattle.handlebars_base.specs.Reasons.{TemplateRefusal}
use Rattle.handlebars_lexer.specs.Options.{Options}
use Rattle.handlebars_template.specs.Compile.{Compiles, compiled, rejected}
use Rattle.handlebars_template.specs.Tree.{Tree, empty_tree}
use Rattle.handlebars_report.specs.Place.{IsPlaceIn}
use Rattle.handlebars_report.specs.Problem.{Problem}
use Rattle.handlebars_report.specs.declared.problem.Severity.TheVariants.{Error}
use Rattle.hb_check.specs.Sources.{Registered, registered_of, source_under}
use Rattle.hb_check.specs.declared.question.File.{File}
use Rattle.hb_check.specs.declared.sources.Sources.{Sources}

-- as a registry compiles a source under this name
abbrev pub options_for : Text → Options
options_for n = record { name = Some n; prevent_indent = false; sections = true }

-- an error in a file
pub record IsErrorIn (f : File) (p : Problem) : Type 0 where
  pub severity : p.severity ≡ Error
  pub lies : IsPlaceIn f.path.now f.text.now p.place

-- A file compiles to this tree, and nothing is reported; or its text is rejected, which is one error, and it counts as this empty tree.
pub data CompilesAs (f : File) : Tree → List Problem → Type 0 where
  well : {t : Tree} → Compiles f.text.now (options_for f.name.now) (compiled t) → CompilesAs f t []
  ill : {r : TemplateRefusal} {p : Problem} → Compiles f.text.now (options_for f.name.now) (rejected r) → IsErrorIn f p
      → CompilesAs f empty_tree (p ∷ [])

-- what is registered under names, with a file that compiles to this tree; it replaces what was registered under its name
abbrev pub registered_with : (Text → Option Registered) → File → Tree → Text → Option Registered
registered_with before f t n =
    if bytes_eq f.name.now n then Some (record { path = f.path.now; text = f.text.now; tree = t }) else before n

-- These files are compiled one after another: then this is registered, and these problems are reported.
pub data AreCompiled : List File → (Text → Option Registered) → List Problem → Type 0 where
  no_file : AreCompiled [] (λ n. None) []
  a_file : {fs : List File} {before : Text → Option Registered} {ps : List Problem} {f : File} {t : Tree} {qs : List Problem}
      → AreCompiled fs before ps → CompilesAs f t qs → AreCompiled (fs ++ f ∷ []) (registered_with before f t) (ps ++ qs)

-- The sources are those that are registered.
abbrev pub AreSources : (Text → Option Registered) → Sources → Type 0
AreSources registered ss = (n : Text) → option_map registered_of (source_under ss n) ≡ registered n

-- what is reported of files that are compiled to these sources
abbrev pub ReportsFiles : List File → Sources → List Problem → Type 0
ReportsFiles fs ss ps = (registered : Text → Option Registered) × AreCompiled fs registered ps × AreSources registered ss
