-- What is known if nothing is reported.
use Rattle.std.proofs.Common.{◌≡◌, ◌++◌, ◌∷◌, [], Bool, true, false, List, map, Option, ap, refl, sym, subst, ◌∙◌, cond}
use Rattle.std.proofs.lemmas.List.{nil_from_length}
use Rattle.std.proofs.lemmas.List.Sorted.{length_permutation}
use Rattle.std.specs.List.{AllByRecursion, AllZip, fold}
use Rattle.std.specs.List.Sorted.{IsPermutation}
use Rattle.handlebars_base.specs.Bytes.{Text}
use Rattle.handlebars_helpers.specs.UserAnswers.{Registrations, UserAnswers}
use Rattle.handlebars_html.specs.Faults.{Fault, has_fault, with_fault, with_faults}
use Rattle.handlebars_html.specs.Search as pages
use Rattle.handlebars_includes.specs.Circles.{AreCircles, Tag}
use Rattle.handlebars_includes.specs.Graph.{Graph}
use Rattle.handlebars_names.specs.Search as names
use Rattle.handlebars_report.specs.Problem.{Problem}
use Rattle.handlebars_template.specs.Tree.{Tree}
use Rattle.hb_check.specs.Clean.{AreHarmless, IsClean, IsCompiled}
use Rattle.hb_check.specs.Compiled.{AreCompiled, CompilesAs, a_file, ill, no_file, well}
use Rattle.hb_check.specs.Found.{ReportsHtmlFound, ReportsUndecided}
use Rattle.hb_check.specs.Page.{including_all, names_at}
use Rattle.hb_check.specs.Report.{IfAsked, IsReport, ReportsAll, ReportsMarkupOf, graph_in, replaced_in}
use Rattle.hb_check.specs.Says.{SaysHtml, SaysNames, and_faults, faults_in, html_pages, is_undecided, markup_faults, names_among, or_undecided}
use Rattle.hb_check.specs.Several.{ReportsCircle, ReportsCircles}
use Rattle.hb_check.specs.Sources.{Registered, templates_in}
use Rattle.hb_check.specs.Reported.{ReportsHtml, ReportsMarkup, ReportsName, ReportsNames}
use Rattle.hb_check.specs.declared.question.File.{File}
use Rattle.hb_check.specs.declared.question.Question.{Question}
use Rattle.hb_check.specs.declared.sources.Sources.{Sources}

-- ---- lists

-- A list that begins with an item is not empty.
not-nil : {X A : Type 0} (x : X) (xs : List X) → x ∷ xs ≡ [] → A
not-nil x xs none = let never : ⊥ = cc in elim never [ ]

first-nil : {X : Type 0} (xs ys : List X) → xs ++ ys ≡ [] → xs ≡ []
first-nil [] ys none = refl
first-nil (x ∷ xs) ys none = not-nil x (xs ++ ys) none

second-nil : {X : Type 0} (xs ys : List X) → xs ++ ys ≡ [] → ys ≡ []
second-nil [] ys none = none
second-nil (x ∷ xs) ys none = not-nil x (xs ++ ys) none

zip-nil : {X Y : Type 0} (R : X → Y → Type 0) (xs : List X) (ys : List Y) → ys ≡ [] → AllZip R xs ys → xs ≡ []
zip-nil R [] ys none all = refl
zip-nil R (x ∷ xs) [] none all = elim all [ ]
zip-nil R (x ∷ xs) (y ∷ ys) none all = not-nil y ys none

all-push : {X : Type 0} (P : X → Type 0) (xs : List X) (x : X) → AllByRecursion P xs → P x → AllByRecursion P (xs ++ x ∷ [])
all-push P [] x all one = (one, tt)
all-push P (y ∷ xs) x (first, all) one = (first, all-push P xs x all one)

-- ---- files

compiled-one : (f : File) (t : Tree) (qs : List Problem) → CompilesAs f t qs → qs ≡ [] → IsCompiled f
compiled-one f t qs (well compiles) none = (t, compiles)
compiled-one f t qs (ill {p = p} rejects error) none = not-nil p [] none

compiled-all : (fs : List File) (registered : Text → Option Registered) (ps : List Problem) → AreCompiled fs registered ps → ps ≡ []
    → AllByRecursion IsCompiled fs
compiled-all fs registered ps no_file none = tt
compiled-all fs registered ps (a_file {fs = gs} {before = before} {ps = qs} {f = f} {t = t} {qs = rs} all one) none =
    all-push IsCompiled gs f (compiled-all gs before qs all (first-nil qs rs none)) (compiled-one f t rs one (second-nil qs rs none))

-- ---- names

known : (r : Registrations) (ss : Sources) (page : names.Page) (v : names.Verdict) (ps : List Problem) → ps ≡ [] → SaysNames r ss page v
    → ReportsNames ss v ps → SaysNames r ss page names.no_faults
known r ss page names.no_faults ps none says reports = says
known r ss page (names.some_faults fs) ps none (table, entered, are, some) reports =
    let never : ⊥ = some (zip-nil (ReportsName ss) fs ps none reports) in elim never [ ]
known r ss page names.undecided [] none says reports = elim reports [ ]
known r ss page names.undecided (p ∷ ps) none says reports = not-nil p ps none

-- ---- markup

fixed : (r : Registrations) (ss : Sources) (asked : Bool) (ps : List Problem) → ps ≡ [] → IfAsked asked (ReportsMarkupOf r ss) ps
    → asked ≡ true → markup_faults r ss ≡ []
fixed r ss true ps none reports is_asked = zip-nil (ReportsMarkup ss) (markup_faults r ss) ps none reports
fixed r ss false ps none reports is_asked = let never : ⊥ = cc in elim never [ ]

-- ---- html

with_fault-some : (x : Fault) (xs : List Fault) (y : Fault) → (z : Fault) × (zs : List Fault) × (with_fault (x ∷ xs) y ≡ z ∷ zs)
with_fault-some x xs y = by (has_fault (x ∷ xs) y)
  where
    by : (b : Bool) → (z : Fault) × (zs : List Fault) × (cond b (x ∷ xs) ((x ∷ xs) ++ y ∷ []) ≡ z ∷ zs)
    by true = (x, xs, refl)
    by false = (x, xs ++ y ∷ [], refl)

with_faults-some : (ys : List Fault) (x : Fault) (xs : List Fault) → (z : Fault) × (zs : List Fault) × (with_faults (x ∷ xs) ys ≡ z ∷ zs)
with_faults-some [] x xs = (x, xs, refl)
with_faults-some (y ∷ ys) x xs =
    let (z, zs, more) = with_fault-some x xs y in
    let (w, ws, most) = with_faults-some ys z zs in
    (w, ws, ap (λ (fs : List Fault). with_faults fs ys) more ∙ most)

-- Where there is a fault, there is one after all other verdicts.
faults-stay : (vs : List pages.Verdict) (x : Fault) (xs : List Fault) → fold and_faults (x ∷ xs) vs ≡ [] → ⊥
faults-stay [] x xs none = cc
faults-stay (v ∷ vs) x xs none =
    let (z, zs, more) = with_faults-some (faults_in v) x xs in
    faults-stay vs z zs (sym (ap (λ (fs : List Fault). fold and_faults fs vs) more) ∙ none)

undecided-stays : (vs : List pages.Verdict) → fold or_undecided true vs ≡ false → ⊥
undecided-stays [] decided = cc
undecided-stays (v ∷ vs) decided = undecided-stays vs decided

harmless-all : (r : Registrations) (a : UserAnswers) (ss : Sources) (ps : List pages.Pages) (vs : List pages.Verdict)
    → AllZip (SaysHtml r a ss) ps vs → fold and_faults [] vs ≡ [] → fold or_undecided false vs ≡ false
    → AllByRecursion (λ p. SaysHtml r a ss p pages.no_faults) ps
harmless-all r a ss [] vs all none decided = tt
harmless-all r a ss (p ∷ ps) [] all none decided = elim all [ ]
harmless-all r a ss (p ∷ ps) (pages.no_faults ∷ vs) (says, all) none decided = (says, harmless-all r a ss ps vs all none decided)
harmless-all r a ss (p ∷ ps) (pages.some_faults [] ∷ vs) ((others, lists, verdict), all) none decided =
    let never : ⊥ = verdict.4 refl in elim never [ ]
harmless-all r a ss (p ∷ ps) (pages.some_faults (f ∷ fs) ∷ vs) (says, all) none decided =
    let (z, zs, more) = with_faults-some fs f [] in
    let never : ⊥ = faults-stay vs z zs (sym (ap (λ (gs : List Fault). fold and_faults gs vs) more) ∙ none) in elim never [ ]
harmless-all r a ss (p ∷ ps) (pages.undecided ∷ vs) (says, all) none decided =
    let never : ⊥ = undecided-stays vs decided in elim never [ ]

undecided-none : (b : Bool) (rs : List Problem) → rs ≡ [] → ReportsUndecided b rs → b ≡ false
undecided-none true [] none reports = elim reports [ ]
undecided-none true (p ∷ ps) none reports = not-nil p ps none
undecided-none false rs none reports = refl

harmless : (r : Registrations) (a : UserAnswers) (ss : Sources) (ns : List Text) (asked : Bool) (ps : List Problem) → ps ≡ []
    → IfAsked asked (ReportsHtmlFound r a ss ns) ps → asked ≡ true → AreHarmless r a ss ns
harmless r a ss ns true ps none (undecided, fs, qs, rs, (vs, are, is_undecided, faults), each, given_up, all) is_asked =
    harmless-all r a ss (html_pages ns) vs are
    (sym faults ∙ zip-nil (ReportsHtml ss) fs qs (first-nil qs rs (sym all ∙ none)) each)
    (sym is_undecided ∙ undecided-none undecided rs (second-nil qs rs (sym all ∙ none)) given_up)
harmless r a ss ns false ps none reports is_asked = let never : ⊥ = cc in elim never [ ]

-- ---- circles

no-circles : (ss : Sources) (names : List Text) (g : Graph) (replaced : Bool) (ps : List Problem) → ps ≡ []
    → ReportsCircles ss names g replaced ps → AreCircles g replaced []
no-circles ss names g replaced ps none (ts, are, each) =
    subst (λ (us : List Tag). AreCircles g replaced us) (zip-nil (ReportsCircle ss names) ts ps none each) are

-- ---- all

permuted-nil : (ps : List Problem) → IsPermutation ps [] → ps ≡ []
permuted-nil ps same = nil_from_length ps (sym (length_permutation ps [] same))

pub clean-report : (r : Registrations) (a : UserAnswers) (q : Question) (reported : List Problem) → reported ≡ [] → IsReport r a q reported
    → IsClean r a q
clean-report r a q reported none (ps, found, same) = record {
  sources = found.sources;
  compile = compiled-all q.files.now found.syntax_reported.0 found.syntax found.syntax_reported.1 no_syntax;
  pages = others.names_reported.indices;
  are_pages = others.names_reported.pages;
  known = known r found.sources
      (names.a_source (including_all (map (λ n. n.now) q.pages.now) (names_at (names_among (templates_in found.sources)) others.names_reported.indices)))
      others.names_reported.verdict others.names_reported.faults no_faults
      others.names_reported.says others.names_reported.faults_reported;
  ends = no-circles found.sources (names_among (templates_in found.sources)) (graph_in (templates_in found.sources))
      (replaced_in (templates_in found.sources)) others.names_reported.circles no_circles others.names_reported.circles_reported;
  fixed = fixed r found.sources q.markup others.markup no_markup others.markup_reported;
  harmless = harmless r a found.sources _ q.html others.html no_html others.html_reported;
}
  where
    others : ReportsAll r a q found.sources found.others
    others = found.others_reported

    nothing : ps ≡ []
    nothing = permuted-nil ps (subst (λ (xs : List Problem). IsPermutation ps xs) none same)

    no_syntax : found.syntax ≡ []
    no_syntax = first-nil found.syntax found.others (sym found.all ∙ nothing)

    no_others : others.names ++ (others.hidden ++ (others.markup ++ others.html)) ≡ []
    no_others = sym others.all ∙ second-nil found.syntax found.others (sym found.all ∙ nothing)

    no_names : others.names ≡ []
    no_names = first-nil others.names (others.hidden ++ (others.markup ++ others.html)) no_others

    no_pages : others.names_reported.circles ++ others.names_reported.faults ≡ []
    no_pages =
        second-nil others.names_reported.unused (others.names_reported.circles ++ others.names_reported.faults)
        (sym others.names_reported.all ∙ no_names)

    no_circles : others.names_reported.circles ≡ []
    no_circles = first-nil others.names_reported.circles others.names_reported.faults no_pages

    no_faults : others.names_reported.faults ≡ []
    no_faults = second-nil others.names_reported.circles others.names_reported.faults no_pages

    no_later : others.markup ++ others.html ≡ []
    no_later =
        second-nil others.hidden (others.markup ++ others.html) (second-nil others.names (others.hidden ++ (others.markup ++ others.html)) no_others)

    no_markup : others.markup ≡ []
    no_markup = first-nil others.markup others.html no_later

    no_html : others.html ≡ []
    no_html = second-nil others.markup others.html no_later
