-- What is said of where data stands in the HTML that a registry's templates write.
use Rattle.std.specs.List.{flat_map}
use Rattle.std.specs.Prelude.{◌≡◌, List, [], ◌∷◌, ◌++◌, Option}
use Rattle.handlebars_base.specs.Bytes.{Text}
use Rattle.handlebars_base.specs.Optional.{with_or}
use Rattle.handlebars_lexer.specs.Options.{Options}
use Rattle.handlebars_template.specs.Tree.{Tree}
use Rattle.handlebars_helpers.specs.UserAnswers.{UserAnswers, Registrations}
use Rattle.handlebars_semantics.specs.Answer.{a_tree, FromSource}
use Rattle.handlebars_html.specs.Checked.{Says}
use Rattle.handlebars_html.specs.Faults.{Fault}
use Rattle.handlebars_html.specs.RowsView.{fault_of}
use Rattle.handlebars_html.specs.Search.{Pages, Verdict, no_faults, some_faults, undecided}
use Rattle.handlebars_html.specs.declared.fault.HtmlFault.{HtmlFault}
use Rattle.handlebars_html.specs.declared.search.Verdict as declared
use Rattle.handlebars_html.specs.declared.search.Verdict.TheVariants as verdict
use Rattle.handlebars.specs.Files.{overlaid_on}
use Rattle.handlebars.specs.Markup.{AreNamesOf, uncovered}
use Rattle.handlebars.specs.Over.{parts_over}
use Rattle.handlebars.specs.View.{stored_tree}
use Rattle.handlebars.specs.declared.registry.RegistryOf.{RegistryOf}
use Rattle.handlebars.specs.declared.registry.html.HtmlSafety.{HtmlSafety}
use Rattle.handlebars.specs.declared.registry.html.HtmlSafety.TheVariants.{Safe, Unsafe, Undecided}

-- ---- the templates that are checked

-- the template under a name, with the name, if there is one
abbrev pub template_under : (Text → Option Tree) → Text → List (Text × Tree)
template_under template n = with_or (template n) (λ t. (n, t) ∷ []) []

abbrev pub templates_under : (Text → Option Tree) → List Text → List (Text × Tree)
templates_under template ns = flat_map (template_under template) ns

-- First come the trees above, in byte order of name, and then all others, in byte order of name too.
pub record AreInOrder (above below : Text → Option Tree) (templates : List (Text × Tree)) : Type 0 where
  pub first : List Text
  pub rest : List Text
  pub are_above : AreNamesOf above first
  pub are_below : AreNamesOf (uncovered above below) rest
  pub listed : templates
      ≡ templates_under (overlaid_on above below) first ++ templates_under (overlaid_on above below) rest

-- ---- what is said

module _ {E : Type 0} (registered : E → Registrations) (user : E → UserAnswers) (trees : Text → Option Tree) (r : RegistryOf E) where
  -- The check says this of pages, with these trees over those of a registry.
  pub record SaysHtml (pages : Pages) (v : Verdict) : Type 0 where
    pub says : Says (parts_over registered user trees r) pages v
    pub order : AreInOrder trees (stored_tree r) says.templates

  -- The pages are safe only if the check finds no fault; if it finds one, the first is reported.
  abbrev pub JudgesHtml : Pages → HtmlSafety → Type 0
  JudgesHtml pages Safe = SaysHtml pages no_faults
  JudgesHtml pages (Unsafe f) = (fs : List Fault) × SaysHtml pages (some_faults (fault_of f ∷ fs))
  JudgesHtml pages Undecided = SaysHtml pages undecided

-- This is said of the tree that a source compiles to.
abbrev pub OfSource : Options → Text → (Tree → Type 0) → Type 0
OfSource options source Said = (t : Tree) × FromSource options source (a_tree t) × Said t

-- ---- what is reported first

abbrev pub first_unsafe : List HtmlFault → HtmlSafety
first_unsafe [] = Undecided
first_unsafe (f ∷ fs) = Unsafe f

abbrev pub safety_by : declared.Verdict → HtmlSafety
safety_by verdict.NoFaults = Safe
safety_by (verdict.Faults fs) = first_unsafe fs.items
safety_by verdict.Undecided = Undecided
