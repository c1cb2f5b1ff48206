-- A round of the check, its verdicts, and the law.
use Rattle.std.specs.Prelude.{◌≡◌, ◌≢◌, Bool, true, false, if◌then◌else◌, List, [], ◌∷◌, ◌++◌, Option, None, Some}
use Rattle.std.specs.List.{list_all}
use Rattle.handlebars_base.specs.Bytes.{Text}
use Rattle.handlebars_base.specs.Optional.{with_or}
use Rattle.handlebars_template.specs.Tree.{Tree}
use Rattle.handlebars_semantics.specs.Pieces.{Piece}
use Rattle.handlebars_semantics.specs.Runs.{Outcome, Means}
use Rattle.handlebars_semantics.specs.State.{Setting, first_state}
use Rattle.handlebars_html.specs.Search.{AreAll}
use Rattle.handlebars_names.specs.Check.{tree_findings, AreFine}
use Rattle.handlebars_names.specs.Faults.{missing_partial, Fault, Finding, fault, includes, faults_at}
use Rattle.handlebars_names.specs.Law.{PassNoPartials, FailsOnlySo}
use Rattle.handlebars_names.specs.Names.{Names, AreNames}
use Rattle.handlebars_names.specs.Scopes.{Scope, first_scope, covers, Entry, scope_at}

-- What is checked, as a page: this source; or the template of this name, which may be rendered by it.
pub data Page : Type 0 where
  a_source : Tree → Page
  a_template : Text → Page

-- ---- a round

module _ (names : Names) (table : List Entry) where
  abbrev pub page_findings : Page → List Finding
  page_findings (a_source t) = tree_findings names table None t first_scope
  page_findings (a_template n) =
      includes n first_scope ∷ (if names.has_template n then [] else faults_at None None (missing_partial n ∷ []))

  -- A template is read by what the table has of its name.
  abbrev pub findings_under : Option Scope → Text → Tree → List Finding
  findings_under None n t = []
  findings_under (Some h) n t = tree_findings names table (Some n) t h

  abbrev pub templates_findings : List (Text × Tree) → List Finding
  templates_findings [] = []
  templates_findings (x ∷ xs) = findings_under (scope_at table x.0) x.0 x.1 ++ templates_findings xs

  -- First the page, and then all templates. A page by its name is read among them.
  abbrev pub round : List (Text × Tree) → Page → List Finding
  round templates page = page_findings page ++ templates_findings templates

-- ---- verdicts

abbrev pub faults_among : List Finding → List Fault
faults_among [] = []
faults_among (fault x ∷ xs) = x ∷ faults_among xs
faults_among (includes n h ∷ xs) = faults_among xs

-- A fault counts as entered. A name that is included is in the table, which says no more than is known there.
abbrev pub is_entered : List Entry → Finding → Bool
is_entered table (fault x) = true
is_entered table (includes n h) = with_or (scope_at table n) (λ g. covers g h) false

-- The names are known; or they aren't, for these faults; or the search went too far, and nothing is said.
pub data Verdict : Type 0 where
  no_faults : Verdict
  some_faults : List Fault → Verdict
  undecided : Verdict

abbrev pub IsVerdict : Names → List (Text × Tree) → Page → Verdict → Type 0
IsVerdict names templates page no_faults = (table : List Entry) × AreFine table (round names table templates page)
IsVerdict names templates page (some_faults xs) =
    (table : List Entry) × (list_all (is_entered table) (round names table templates page) ≡ true)
    × (xs ≡ faults_among (round names table templates page)) × (xs ≢ [])
IsVerdict names templates page undecided = Unit {0}

-- what is said where these are all faults
abbrev pub verdict_in : List Fault → Verdict
verdict_in [] = no_faults
verdict_in (x ∷ xs) = some_faults (x ∷ xs)

-- ---- the law

-- a tree that is checked as a page
abbrev pub IsPage : (Text → Option Tree) → Page → Tree → Type 0
IsPage template (a_source s) t = s ≡ t
IsPage template (a_template n) t = template n ≡ Some t

-- The renderings of a page for which there is no fault fail only so, whatever the data.
abbrev pub AcceptedFailOnlySo : Setting → Type 0
AcceptedFailOnlySo p =
    (names : Names) → AreNames p.parts names → PassNoPartials p.parts → (templates : List (Text × Tree))
    → AreAll p.parts.template templates → (page : Page) → IsVerdict names templates page no_faults
    → (t : Tree) → IsPage p.parts.template page t → (recursive : Bool) (ps : List Piece) (o : Outcome)
    → Means p t (first_state recursive) ps o → FailsOnlySo p.parts o
