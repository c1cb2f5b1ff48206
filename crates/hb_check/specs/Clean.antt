-- What is known if nothing is reported.
use Rattle.std.specs.Prelude.{◌≡◌, ℕ, true, List, [], map}
use Rattle.std.specs.List.{AllByRecursion}
use Rattle.handlebars_base.specs.Bytes.{Text}
use Rattle.handlebars_helpers.specs.UserAnswers.{Registrations, UserAnswers}
use Rattle.handlebars_html.specs.Search as pages
use Rattle.handlebars_includes.specs.Circles.{AreCircles}
use Rattle.handlebars_includes.specs.Graph.{ArePages}
use Rattle.handlebars_names.specs.Search as names
use Rattle.handlebars_template.specs.Compile.{Compiles, compiled}
use Rattle.handlebars_template.specs.Tree.{Tree}
use Rattle.hb_check.specs.Compiled.{options_for}
use Rattle.hb_check.specs.Page.{including_all, names_at}
use Rattle.hb_check.specs.Says.{SaysNames, SaysHtml, html_pages, markup_faults, names_among}
use Rattle.hb_check.specs.Report.{graph_in, replaced_in}
use Rattle.hb_check.specs.Sources.{templates_in}
use Rattle.hb_check.specs.declared.question.File.{File}
use Rattle.hb_check.specs.declared.question.Question.{Question}
use Rattle.hb_check.specs.declared.sources.Sources.{Sources}

-- A file compiles.
abbrev pub IsCompiled : File → Type 0
IsCompiled f = (t : Tree) × Compiles f.text.now (options_for f.name.now) (compiled t)

-- The check of HTML says of each page that there is no fault.
abbrev pub AreHarmless : Registrations → UserAnswers → Sources → List Text → Type 0
AreHarmless r a ss ns = AllByRecursion (λ p. SaysHtml r a ss p pages.no_faults) (html_pages ns)

-- All that was asked holds of all that was named.
pub record IsClean (r : Registrations) (a : UserAnswers) (q : Question) : Type 0 where
  pub sources : Sources
  pub compile : AllByRecursion IsCompiled q.files.now
  pub pages : List ℕ
  pub are_pages : ArePages (graph_in (templates_in sources)) pages
  pub known : SaysNames r sources
      (names.a_source (including_all (map (λ n. n.now) q.pages.now) (names_at (names_among (templates_in sources)) pages))) names.no_faults
  pub ends : AreCircles (graph_in (templates_in sources)) (replaced_in (templates_in sources)) []
  pub fixed : q.markup ≡ true → markup_faults r sources ≡ []
  pub harmless : q.html ≡ true → AreHarmless r a sources (map (λ n. n.now) q.pages.now)
