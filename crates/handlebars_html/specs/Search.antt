-- The search for a table by which pages and the templates that they include keep the rule of data, and what it says.
use Rattle.std.specs.Prelude.{◌≡◌, ◌≢◌, ℕ, zero, suc, Bool, true, false, ◌&&◌, if◌then◌else◌, List, [], ◌∷◌, map, Option, None, Some}
use Rattle.std.specs.List.{AllByRecursion, Contains, list_all}
use Rattle.std.specs.Str.{bytes_eq}
use Rattle.handlebars_base.specs.Bytes.{Text}
use Rattle.handlebars_template.specs.Tree.{Tree}
use Rattle.handlebars_semantics.specs.Pieces.{Piece}
use Rattle.handlebars_semantics.specs.Runs.{Outcome, Means}
use Rattle.handlebars_semantics.specs.State.{Setting, first_state}
use Rattle.handlebars_html.specs.Html.{beginning}
use Rattle.handlebars_html.specs.Rule.{Table, Leads}
use Rattle.handlebars_html.specs.Usual.{IsClosed}
use Rattle.handlebars_html.specs.Safety.{html_rule, StandSafely}
use Rattle.handlebars_html.specs.Rows.{Row, entering, has_row, with_rows, table_of}
use Rattle.handlebars_html.specs.Faults.{Fault}
use Rattle.handlebars_html.specs.Check.{Findings, no_findings, both_findings, found_rows, found_faults, each_once, ends_in, findings_of_entered, tree_ends}
use Rattle.handlebars_html.specs.Registry.{UserDefined, registered_in, Lists, faults_of_registry}

-- What is checked, as pages: this source; or each template, which may be rendered by its name.
pub data Pages : Type 0 where
  source : Tree → Pages
  all_templates : Pages

-- ---- a round

module _ (u : UserDefined) (rows : List Row) where
  -- A source is read from the beginning of a document. A template that is rendered by its name is included there.
  abbrev pub pages_findings : List (Text × Tree) → Pages → Findings
  pages_findings templates (source t) = (tree_ends (registered_in u) rows None t (beginning ∷ [])).findings
  pages_findings templates all_templates = found_rows (map (λ x. entering x.0 beginning) templates)

  -- A template is read from each state in which its name is included.
  abbrev pub template_findings : Text × Tree → Findings
  template_findings x =
      findings_of_entered rows
      (λ n h. if bytes_eq n x.0 then tree_ends (registered_in u) rows (Some x.0) x.1 (h ∷ []) else ends_in [])

  -- all templates, one after another
  abbrev pub templates_findings : List (Text × Tree) → Findings
  templates_findings [] = no_findings
  templates_findings (x ∷ xs) = both_findings (each_once (template_findings x)) (templates_findings xs)

  -- First come the pages, then what is user-defined, and then all templates.
  abbrev pub round : List (Text × Tree) → Pages → Findings
  round templates pages =
      both_findings (each_once (pages_findings templates pages))
      (both_findings (found_faults (faults_of_registry u)) (templates_findings templates))

-- whether there is no fault
abbrev pub has_none : List Fault → Bool
has_none [] = true
has_none (x ∷ xs) = false

-- A round finds no fault, and no row that is not among these.
abbrev pub accepts_findings : List Row → Findings → Bool
accepts_findings rows x = has_none x.faults && list_all (has_row rows) x.rows

module _ (u : UserDefined) (templates : List (Text × Tree)) (pages : Pages) where
  -- The rows are accepted for these pages and templates.
  abbrev pub accepts : List Row → Bool
  accepts rows = accepts_findings rows (round u rows templates pages)

  -- ---- the search

  -- what breaks the rule, as a round by these rows says
  abbrev pub faults_by : List Row → List Fault
  faults_by rows = (round u rows templates pages).faults

  -- the rows that so many rounds find
  abbrev pub searched : ℕ → List Row
  searched zero = []
  searched (suc n) = with_rows (searched n) (round u (searched n) templates pages).rows

  -- what the round after these says
  abbrev pub faults_after : ℕ → List Fault
  faults_after n = faults_by (searched n)

  -- Whatever rows are accepted, these are among them. Where none are, that says nothing.
  abbrev pub AreNeeded : List Row → Type 0
  AreNeeded rows = (others : List Row) → accepts others ≡ true → list_all (has_row others) rows ≡ true

-- ---- verdicts

-- The pages keep the rule; or they don't, for these faults; or the search went too far, and nothing is said.
pub data Verdict : Type 0 where
  no_faults : Verdict
  some_faults : List Fault → Verdict
  undecided : Verdict

-- In whichever order the rows are searched: they are accepted in the end; or the rows are needed, a round by them finds no other
-- row, and finds what breaks the rule, which is at least one fault.
abbrev pub IsVerdict : UserDefined → List (Text × Tree) → Pages → Verdict → Type 0
IsVerdict u templates pages no_faults = (rows : List Row) × (accepts u templates pages rows ≡ true)
IsVerdict u templates pages (some_faults xs) =
    (rows : List Row) × AreNeeded u templates pages rows
    × (list_all (has_row rows) (round u rows templates pages).rows ≡ true)
    × (xs ≡ faults_by u templates pages rows) × (xs ≢ [])
IsVerdict u templates pages undecided = Unit {0}

-- what is said where these are all faults
abbrev pub verdict_in : List Fault → Verdict
verdict_in [] = no_faults
verdict_in (x ∷ xs) = some_faults (x ∷ xs)

-- ---- laws

-- The table has each page: a source leads somewhere from the beginning of a document, and a template may be included there.
abbrev pub PagesLead : Table html_rule → List (Text × Tree) → Pages → Type 0
PagesLead table templates (source t) = Leads html_rule table t beginning (λ g. Unit {0})
PagesLead table templates all_templates = AllByRecursion (λ x. table.enters x.0 beginning) templates

-- All registered templates are among these.
abbrev pub AreAll : (Text → Option Tree) → List (Text × Tree) → Type 0
AreAll template templates = (n : Text) (t : Tree) → template n ≡ Some t → Contains templates (n, t)

-- All of these templates are registered.
abbrev pub AreRegistered : (Text → Option Tree) → List (Text × Tree) → Type 0
AreRegistered template templates = (n : Text) (t : Tree) → Contains templates (n, t) → template n ≡ Some t

-- What is accepted leads as the rule has it.
abbrev pub IsRightToAccept : Setting → Type 0
IsRightToAccept p =
    (u : UserDefined) (templates : List (Text × Tree)) (pages : Pages) (rows : List Row)
    → AreAll p.parts.template templates
    → accepts u templates pages rows ≡ true
    → PagesLead (table_of (registered_in u) rows) templates pages × IsClosed p html_rule (table_of (registered_in u) rows)

-- a tree that is checked as a page
abbrev pub IsPage : (Text → Option Tree) → Pages → Tree → Type 0
IsPage template (source s) t = s ≡ t
IsPage template all_templates t = (n : Text) × (template n ≡ Some t)

-- In each run of the tree, whatever the data, and however the run ends, data stands only where it may.
abbrev pub KeepsDataSafeIn : Setting → Tree → Type 0
KeepsDataSafeIn p t =
    (recursive : Bool) (ps : List Piece) (o : Outcome) → Means p t (first_state recursive) ps o → StandSafely ps

-- The pages for which there is no fault keep data safe.
abbrev pub AcceptedKeepDataSafe : Setting → Type 0
AcceptedKeepDataSafe p =
    (u : UserDefined) → Lists p.parts u → (templates : List (Text × Tree)) → AreAll p.parts.template templates
    → (pages : Pages) → IsVerdict u templates pages no_faults → (t : Tree) → IsPage p.parts.template pages t
    → KeepsDataSafeIn p t

-- If nothing user-defined breaks the rule, and all leads as the rule has it by any table, then no number of rounds finds a
-- fault. So a fault means that there is no such table.
abbrev pub IsRightToRefuse : Setting → Type 1
IsRightToRefuse p =
    (u : UserDefined) → faults_of_registry u ≡ [] → (templates : List (Text × Tree))
    → AreRegistered p.parts.template templates
    → (table : Table html_rule) → table.registered ≡ registered_in u → IsClosed p html_rule table
    → (pages : Pages) → PagesLead table templates pages → (n : ℕ) → faults_after u templates pages n ≡ []

-- If pages are accepted, by any rows, then no rows that are needed show a fault, and so no number of rounds does.
abbrev pub AcceptedHaveNoFaults : Type 0
AcceptedHaveNoFaults =
    (u : UserDefined) (templates : List (Text × Tree)) (pages : Pages) → IsVerdict u templates pages no_faults
    → ((xs : List Fault) → IsVerdict u templates pages (some_faults xs) → ⊥)
    × ((n : ℕ) → faults_after u templates pages n ≡ [])
