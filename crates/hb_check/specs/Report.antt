-- What a report on templates has.
use Rattle.std.specs.Prelude.{◌≡◌, ℕ, Bool, true, false, List, [], ◌++◌, IsPermutation, map}
use Rattle.std.specs.List.{AllZip}
use Rattle.handlebars_base.specs.Bytes.{Text}
use Rattle.handlebars_helpers.specs.UserAnswers.{Registrations, UserAnswers}
use Rattle.handlebars_includes.specs.Graph.{ArePages, Graph, are_replaced, graph_of}
use Rattle.handlebars_includes.specs.Hidden.{hidden_from}
use Rattle.handlebars_names.specs.Search.{Verdict, a_source}
use Rattle.handlebars_report.specs.Problem.{Problem}
use Rattle.handlebars_template.specs.Tree.{Tree}
use Rattle.hb_check.specs.Chains.{AreChained, AreWays}
use Rattle.hb_check.specs.Compiled.{ReportsFiles}
use Rattle.hb_check.specs.Found.{ReportsHtmlFound}
use Rattle.hb_check.specs.Page.{including_all, names_at}
use Rattle.hb_check.specs.Says.{SaysNames, markup_faults, names_among}
use Rattle.hb_check.specs.Several.{ReportsCircles, ReportsHidden, ReportsUnused, indices_of}
use Rattle.hb_check.specs.Sources.{templates_in}
use Rattle.hb_check.specs.Reported.{ReportsNames, ReportsMarkup}
use Rattle.hb_check.specs.declared.chains.Way.{Way}
use Rattle.hb_check.specs.declared.question.Question.{Question}
use Rattle.hb_check.specs.declared.sources.Sources.{Sources}

-- Nothing is reported of what isn't asked.
abbrev pub IfAsked : Bool → (List Problem → Type 0) → List Problem → Type 0
IfAsked true P ps = P ps
IfAsked false P ps = ps ≡ []

-- which of these templates include which
abbrev pub graph_in : List (Text × Tree) → Graph
graph_in xs = graph_of (names_among xs) (map (λ x. x.1) xs)

-- whether an inline partial may take the place of one of these templates
abbrev pub replaced_in : List (Text × Tree) → Bool
replaced_in xs = are_replaced (names_among xs) (map (λ x. x.1) xs)

-- The templates that the named pages don't reach are reported, and tags that close circles. The check of names says something of these pages, and of those by which
-- all other templates are reached, and each of its faults is reported once, with the tags by which its template is reached.
pub record ReportsPages (r : Registrations) (xs : List (Text × Tree)) (named : List Text) (ss : Sources) (ps : List Problem) : Type 0 where
  pub unused : List Problem
  pub circles : List Problem
  pub faults : List Problem
  pub unused_reported : ReportsUnused ss (names_among xs) (graph_in xs) named unused
  pub circles_reported : ReportsCircles ss (names_among xs) (graph_in xs) (replaced_in xs) circles
  pub indices : List ℕ
  pub pages : ArePages (graph_in xs) indices
  pub verdict : Verdict
  pub says : SaysNames r ss (a_source (including_all named (names_at (names_among xs) indices))) verdict
  pub faults_reported : ReportsNames ss verdict faults
  pub ways : List Way
  pub are_ways : AreWays (graph_in xs) (indices_of (names_among xs) named) ways
  pub chained : AreChained ss (names_among xs) ways verdict faults
  pub all : ps ≡ unused ++ (circles ++ faults)

-- Each fault of markup is reported once.
abbrev pub ReportsMarkupOf : Registrations → Sources → List Problem → Type 0
ReportsMarkupOf r ss ps = AllZip (ReportsMarkup ss) (markup_faults r ss) ps

-- Each name that a hash argument hides is reported once.
abbrev pub ReportsHiddenIn : Sources → List (Text × Tree) → List Problem → Type 0
ReportsHiddenIn ss xs ps = AllZip (ReportsHidden ss (names_among xs)) (hidden_from 0 (map (λ x. x.1) xs)) ps

-- what is asked of registered templates: the problems of pages and names, of hidden names, of markup and of HTML
pub record ReportsAll (r : Registrations) (a : UserAnswers) (q : Question) (ss : Sources) (ps : List Problem) : Type 0 where
  pub names : List Problem
  pub hidden : List Problem
  pub markup : List Problem
  pub html : List Problem
  pub names_reported : ReportsPages r (templates_in ss) (map (λ n. n.now) q.pages.now) ss names
  pub hidden_reported : ReportsHiddenIn ss (templates_in ss) hidden
  pub markup_reported : IfAsked q.markup (ReportsMarkupOf r ss) markup
  pub html_reported : IfAsked q.html (ReportsHtmlFound r a ss (map (λ n. n.now) q.pages.now)) html
  pub all : ps ≡ names ++ (hidden ++ (markup ++ html))

-- All problems of files: first those of files that don't compile, and then what is asked of the templates that they are.
pub record FindsProblems (r : Registrations) (a : UserAnswers) (q : Question) (ps : List Problem) : Type 0 where
  pub sources : Sources
  pub syntax : List Problem
  pub others : List Problem
  pub syntax_reported : ReportsFiles q.files.now sources syntax
  pub others_reported : ReportsAll r a q sources others
  pub all : ps ≡ syntax ++ others

-- A report has all problems, and each as often as it is found.
abbrev pub IsReport : Registrations → UserAnswers → Question → List Problem → Type 0
IsReport r a q reported = (ps : List Problem) × FindsProblems r a q ps × IsPermutation ps reported
