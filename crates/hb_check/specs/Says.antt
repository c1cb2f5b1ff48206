-- What the checks say of templates, by what is registered beside them.
use Rattle.std.specs.Prelude.{◌||◌, ◌++◌, Bool, true, false, List, [], ◌∷◌, Some, flat_map, map}
use Rattle.std.specs.List.{fold}
use Rattle.handlebars_base.specs.Bytes.{Text}
use Rattle.handlebars_helpers.specs.UserAnswers.{Registrations, UserAnswers}
use Rattle.handlebars_html.specs.Ascii.{is_one_of}
use Rattle.handlebars_html.specs.Faults.{with_faults}
use Rattle.handlebars_html.specs.Faults as html
use Rattle.handlebars_html.specs.Registry.{UserDefined, ListsOf}
use Rattle.handlebars_html.specs.Search as pages
use Rattle.handlebars_markup.specs.Faults as markup
use Rattle.handlebars_names.specs.Names.{Names}
use Rattle.handlebars_names.specs.Search as names
use Rattle.handlebars_template.specs.Tree.{Tree}
use Rattle.hb_check.specs.Page.{including}
use Rattle.hb_check.specs.Sources.{templates_in}
use Rattle.hb_check.specs.declared.sources.Sources.{Sources}

-- ---- names

-- what names stand for, where these templates are registered
abbrev pub names_over : Registrations → List Text → Names
names_over r ns = record { helper = r.helper; decorator = r.decorator; sections = true; has_template = is_one_of ns }

abbrev pub names_among : List (Text × Tree) → List Text
names_among xs = map (λ x. x.0) xs

-- The check of names says this of a page.
abbrev pub SaysNames : Registrations → Sources → names.Page → names.Verdict → Type 0
SaysNames r ss page v = names.IsVerdict (names_over r (names_among (templates_in ss))) (templates_in ss) page v

-- ---- markup

abbrev pub faults_of_template : Registrations → Text × Tree → List markup.Fault
faults_of_template r x = markup.faults_of_tree r (Some x.0) x.1

-- what the check of markup finds: in what is registered beside templates, and in each template
abbrev pub markup_faults : Registrations → Sources → List markup.Fault
markup_faults r ss = markup.faults_of_parts r ++ flat_map (faults_of_template r) (templates_in ss)

-- ---- html

module _ (r : Registrations) (a : UserAnswers) (ss : Sources) where
  -- The check of HTML says this of these pages.
  abbrev pub SaysHtml : pages.Pages → pages.Verdict → Type 0
  SaysHtml ps v =
      (others : UserDefined) × ListsOf r.helper a.helper r.decorator r.escape others
      × pages.IsVerdict others (templates_in ss) ps v

-- what is asked of pages: of each of these names on its own, or if there is none, of all templates
abbrev pub page_alone : Text → pages.Pages
page_alone n = pages.source (including (n ∷ []))

abbrev pub html_pages : List Text → List pages.Pages
html_pages [] = pages.all_templates ∷ []
html_pages (n ∷ ns) = map page_alone (n ∷ ns)

abbrev pub faults_in : pages.Verdict → List html.Fault
faults_in pages.no_faults = []
faults_in (pages.some_faults fs) = fs
faults_in pages.undecided = []

abbrev pub is_undecided : pages.Verdict → Bool
is_undecided pages.no_faults = false
is_undecided (pages.some_faults fs) = false
is_undecided pages.undecided = true

-- the faults of one verdict more, each of which is there once
abbrev pub and_faults : List html.Fault → pages.Verdict → List html.Fault
and_faults fs v = with_faults fs (faults_in v)

abbrev pub or_undecided : Bool → pages.Verdict → Bool
or_undecided b v = b || is_undecided v

-- what several verdicts say together
abbrev pub all_faults : List pages.Verdict → List html.Fault
all_faults vs = fold and_faults [] vs

abbrev pub any_undecided : List pages.Verdict → Bool
any_undecided vs = fold or_undecided false vs
