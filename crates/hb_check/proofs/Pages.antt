-- What is reported of pages, by a list of templates.
use Rattle.std.proofs.Common.{◌≡◌, ◌++◌, ◌∷◌, [], ℕ, Bool, List, map, ap, refl, subst, ◌∙◌}
use Rattle.std.specs.List.{AllZip}
use Rattle.handlebars_base.specs.Bytes.{Text}
use Rattle.handlebars_helpers.specs.UserAnswers.{Registrations}
use Rattle.handlebars_includes.specs.Graph.{ArePages, Graph, are_replaced, graph_of}
use Rattle.handlebars_includes.specs.Hidden.{hidden_from}
use Rattle.handlebars_includes.specs.View.{name_of, tree_of}
use Rattle.handlebars_includes.specs.declared.template.NamedTemplate.{NamedTemplate}
use Rattle.handlebars_names.specs.Search.{Verdict, a_source}
use Rattle.handlebars_report.specs.Problem.{Problem}
use Rattle.handlebars_report.specs.declared.problem.Problem as problem
use Rattle.handlebars_template.specs.Tree.{Tree}
use Rattle.hb_check.specs.Chains.{AreChained, AreWays}
use Rattle.hb_check.specs.Page.{including_all, names_at}
use Rattle.hb_check.specs.Report.{ReportsHiddenIn, ReportsPages, graph_in, replaced_in}
use Rattle.hb_check.specs.Says.{SaysNames, names_among}
use Rattle.hb_check.specs.Several.{ReportsCircles, ReportsHidden, ReportsUnused, indices_of}
use Rattle.hb_check.specs.Sources.{numbered_of}
use Rattle.hb_check.specs.Reported.{AddsSome, ReportsNames}
use Rattle.hb_check.specs.declared.chains.Way.{Way}
use Rattle.hb_check.specs.declared.sources.Sources.{Sources}
use Rattle.hb_check.proofs.Reports.{adds-both, adds-same}

pub names-numbered : (ts : List NamedTemplate) → map name_of ts ≡ names_among (map numbered_of ts)
names-numbered [] = refl
names-numbered (t ∷ ts) = ap (λ (ns : List Text). t.name.now ∷ ns) (names-numbered ts)

pub trees-numbered : (ts : List NamedTemplate) → map tree_of ts ≡ map (λ (x : Text × Tree). x.1) (map numbered_of ts)
trees-numbered [] = refl
trees-numbered (t ∷ ts) = ap (λ (us : List Tree). tree_of t ∷ us) (trees-numbered ts)

graph-numbered : (ts : List NamedTemplate) (g : Graph) → g ≡ graph_of (map name_of ts) (map tree_of ts) → g ≡ graph_in (map numbered_of ts)
graph-numbered ts g is =
    is ∙ ap (λ (ns : List Text). graph_of ns (map tree_of ts)) (names-numbered ts)
    ∙ ap (λ (us : List Tree). graph_of (names_among (map numbered_of ts)) us) (trees-numbered ts)

pub replaced-numbered : (ts : List NamedTemplate) (b : Bool) → b ≡ are_replaced (map name_of ts) (map tree_of ts)
    → b ≡ replaced_in (map numbered_of ts)
replaced-numbered ts b is =
    is ∙ ap (λ (ns : List Text). are_replaced ns (map tree_of ts)) (names-numbered ts)
    ∙ ap (λ (us : List Tree). are_replaced (names_among (map numbered_of ts)) us) (trees-numbered ts)

pub pages-reported : (r : Registrations) (ts : List NamedTemplate) (named : List Text) (ss : Sources) (g : Graph) (z : Bool) (is : List ℕ) (t : Tree)
    (v : Verdict) (ws : List Way) (a b c d : List problem.Problem) → g ≡ graph_of (map name_of ts) (map tree_of ts)
    → z ≡ are_replaced (map name_of ts) (map tree_of ts)
    → AddsSome (ReportsUnused ss (map name_of ts) g named) a b → AddsSome (ReportsCircles ss (map name_of ts) g z) b c → ArePages g is
    → t ≡ including_all named (names_at (map name_of ts) is) → SaysNames r ss (a_source t) v
    → AreWays g (indices_of (map name_of ts) named) ws → AddsSome (ReportsNames ss v) c d → AddsSome (AreChained ss (map name_of ts) ws v) c d
    → AddsSome (ReportsPages r (map numbered_of ts) named ss) a d
pages-reported r ts named ss g z is t v ws a b c d graph replaced unused circles pages source says ways reported chained =
    adds-both (ReportsUnused ss (map name_of ts) g named) Later (ReportsPages r xs named ss) a b d both unused
    (adds-both (ReportsCircles ss (map name_of ts) g z) Faults Later b c d (λ ps qs x y. (ps, qs, x, y, refl)) circles
    (adds-same (ReportsNames ss v) (AreChained ss (map name_of ts) ws v) c d reported chained))
  where
    xs : List (Text × Tree)
    xs = map numbered_of ts

    Faults : List Problem → Type 0
    Faults ps = ReportsNames ss v ps × AreChained ss (map name_of ts) ws v ps

    Later : List Problem → Type 0
    Later ps = (cs fs : List Problem) × ReportsCircles ss (map name_of ts) g z cs × Faults fs × (ps ≡ cs ++ fs)

    both : (ps qs : List Problem) → ReportsUnused ss (map name_of ts) g named ps → Later qs → ReportsPages r xs named ss (ps ++ qs)
    both ps qs first (cs, fs, circling, later, are) = record {
      unused = ps;
      circles = cs;
      faults = fs;
      unused_reported = subst (λ (h : Graph). ReportsUnused ss (names_among xs) h named ps) (graph-numbered ts g graph)
          (subst (λ (ns : List Text). ReportsUnused ss ns g named ps) (names-numbered ts) first);
      circles_reported = subst (λ (h : Bool). ReportsCircles ss (names_among xs) (graph_in xs) h cs) (replaced-numbered ts z replaced)
          (subst (λ (h : Graph). ReportsCircles ss (names_among xs) h z cs) (graph-numbered ts g graph)
          (subst (λ (ns : List Text). ReportsCircles ss ns g z cs) (names-numbered ts) circling));
      indices = is;
      pages = subst (λ (h : Graph). ArePages h is) (graph-numbered ts g graph) pages;
      verdict = v;
      says = subst (λ (u : Tree). SaysNames r ss (a_source u) v)
          (source ∙ ap (λ (ns : List Text). including_all named (names_at ns is)) (names-numbered ts)) says;
      faults_reported = later.0;
      ways = ws;
      are_ways = subst (λ (h : Graph). AreWays h (indices_of (names_among xs) named) ws) (graph-numbered ts g graph)
          (subst (λ (ns : List Text). AreWays g (indices_of ns named) ws) (names-numbered ts) ways);
      chained = subst (λ (ns : List Text). AreChained ss ns ws v fs) (names-numbered ts) later.1;
      all = ap (λ (ys : List Problem). ps ++ ys) are;
    }

pub hidden-reported : (ss : Sources) (ts : List NamedTemplate) (xs : List (Text × Tree)) (a b : List problem.Problem)
    → map numbered_of ts ≡ xs → AddsSome (AllZip (ReportsHidden ss (map name_of ts)) (hidden_from 0 (map tree_of ts))) a b
    → AddsSome (ReportsHiddenIn ss xs) a b
hidden-reported ss ts xs a b is reported =
    subst (λ (ys : List (Text × Tree)). AddsSome (ReportsHiddenIn ss ys) a b) is
    (subst (λ (us : List Tree). AddsSome (AllZip (ReportsHidden ss (names_among (map numbered_of ts))) (hidden_from 0 us)) a b) (trees-numbered ts)
    (subst (λ (ns : List Text). AddsSome (AllZip (ReportsHidden ss ns) (hidden_from 0 (map tree_of ts))) a b) (names-numbered ts) reported))
