-- Rounds of the check: what is accepted is closed and keeps data safe; and if all leads as the rule has it by some table, then no
-- round finds a fault.
use Rattle.std.proofs.Common.{◌≡◌, ℕ, zero, suc, Bool, true, false, ◌&&◌, if◌then◌else◌, List, [], ◌∷◌, refl, sym, ap, ◌∙◌, subst, Option, Some, None, arith}
use Rattle.std.specs.List.{list_all, AllByRecursion, Contains}
use Rattle.std.specs.Str.{bytes_eq}
use Rattle.std.proofs.lemmas.List.Elements.{All-from_recursion, All-contains, Contains-append_right}
use Rattle.handlebars_base.specs.Bytes.{Text}
use Rattle.handlebars_template.specs.Tree.{Tree}
use Rattle.handlebars_semantics.specs.State.{Setting}
use Rattle.handlebars_html.specs.Html.{Html, beginning}
use Rattle.handlebars_html.specs.Rule.{Registered, Table, Leads}
use Rattle.handlebars_html.specs.Usual.{IsClosed}
use Rattle.handlebars_html.specs.Safety.{html_rule}
use Rattle.handlebars_html.specs.Rows.{Row, entering, leaving, has_entering, has_row, with_rows, table_of, IsInTable}
use Rattle.handlebars_html.specs.Faults.{Fault}
use Rattle.handlebars_html.specs.Registry.{UserDefined, registered_in, faults_of_registry}
use Rattle.handlebars_html.specs.Check.{Ends, ends_in, each_once, both_findings, found_faults, findings_of_entering, tree_ends}
use Rattle.handlebars_html.specs.Search.{Pages, source, all_templates, pages_findings, template_findings, templates_findings, round, has_none, accepts, searched, faults_by, AreNeeded, IsVerdict, verdict_in, PagesLead, AreAll, IsPage, IsRightToAccept, AcceptedKeepDataSafe, IsRightToRefuse, AcceptedHaveNoFaults}
use Rattle.handlebars_html.specs.FoundView.{with_missing}
use Rattle.handlebars_html.proofs.Accepts.{tree-leads}
use Rattle.handlebars_html.proofs.Adding.{with_missing-all, with_missing-none, accepts-none}
use Rattle.handlebars_html.proofs.CleanFindings.{IsClean, IsFine, text-is, text-self, clean-first, clean-later, clean-both, clean-once, once-clean, entering-to_clean, entered-of_clean, entered-to_clean, fine-states, entering-known, has_row-is, with_rows-all}
use Rattle.handlebars_html.proofs.Refuses.{tree-fine}
use Rattle.handlebars_html.proofs.Safety.{data_stands_safely}
use Rattle.handlebars_html.proofs.StateLists.{true-false, by_both, All-each, All-first, All-of_map, All-to_map, All-of_test}
use Rattle.handlebars_html.proofs.UsualParts.{has_usual_parts}
use Rattle.handlebars_html.proofs.Weaker.{Leads-weaker}

-- A template leads as the table has it for its name.
abbrev LeadsByTable : Table html_rule → Text × Tree → Type 0
LeadsByTable table x = (h : Html) → table.enters x.0 h → Leads html_rule table x.1 h (table.leaves x.0 h)

All-has : {X : Type 0} (P : X → Type 0) (xs : List X) → ((x : X) → Contains xs x → P x) → AllByRecursion P xs
All-has P [] to = tt
All-has P (x ∷ xs) to =
    (to x (0, omega arith, refl), All-has P xs (λ y has. to y (Contains-append_right (x ∷ []) xs y has)))

none-empty : (xs : List Fault) → has_none xs ≡ true → xs ≡ []
none-empty [] is = refl
none-empty (x ∷ xs) is = cc

abbrev is_some_fault : List Fault → Bool
is_some_fault [] = false
is_some_fault (x ∷ xs) = true

-- ---- right to accept

module _ (u : UserDefined) (rows : List Row) where
  abbrev table : Table html_rule
  table = table_of (registered_in u) rows

  abbrev read : Text × Tree → Text → Html → Ends
  read x n h = if bytes_eq n x.0 then tree_ends (registered_in u) rows (Some x.0) x.1 (h ∷ []) else ends_in []

  template-leads : (x : Text × Tree) → IsClean table (template_findings u rows x) → LeadsByTable table x
  template-leads x clean h enters =
      (tree-leads (registered_in u) rows (Some x.0) x.1 (h ∷ []) (table.leaves x.0 h)
      (of_name (bytes_eq x.0 x.0) (text-self x.0) (entered-of_clean table rows (read x) clean x.0 h enters))).0
    where
      of_name : (z : Bool) → z ≡ true
          → IsFine table (table.leaves x.0 h) (if z then tree_ends (registered_in u) rows (Some x.0) x.1 (h ∷ []) else ends_in [])
          → IsFine table (table.leaves x.0 h) (tree_ends (registered_in u) rows (Some x.0) x.1 (h ∷ []))
      of_name true e fine = fine
      of_name false e fine = true-false (sym e)

  templates-lead : (xs : List (Text × Tree)) → IsClean table (templates_findings u rows xs)
      → AllByRecursion (LeadsByTable table) xs
  templates-lead [] clean = tt
  templates-lead (x ∷ xs) clean = (
    template-leads x (clean-once table (template_findings u rows x)
        (clean-first table (each_once (template_findings u rows x)) (templates_findings u rows xs) clean)),
    templates-lead xs (clean-later table (each_once (template_findings u rows x)) (templates_findings u rows xs) clean),
  )

  pages-lead : (templates : List (Text × Tree)) (pages : Pages) → IsClean table (pages_findings u rows templates pages)
      → PagesLead table templates pages
  pages-lead templates (source t) clean =
      let tree = tree_ends (registered_in u) rows None t (beginning ∷ []) in
      (tree-leads (registered_in u) rows None t (beginning ∷ []) (λ g. Unit {0}) (record {
        states = All-each (λ (g : Html). Unit {0}) (λ g. tt) tree.states;
        clean = clean;
      })).0
  pages-lead templates all_templates clean =
      All-of_map (IsInTable table) (λ x. entering x.0 beginning) templates clean.rows

  accepts-clean : (templates : List (Text × Tree)) (pages : Pages) → accepts u templates pages rows ≡ true
      → IsClean table (round u rows templates pages)
  accepts-clean templates pages is =
      let found = round u rows templates pages in
      by_both (has_none found.faults) (list_all (has_row rows) found.rows) is (λ none has. record {
        rows = All-of_test (IsInTable table) (has_row rows) (has_row-is (registered_in u) rows) found.rows has;
        faults = none-empty found.faults none;
      })

  -- What is accepted leads, and nothing user-defined breaks the rule.
  pub accepted-leads : (templates : List (Text × Tree)) (pages : Pages) → accepts u templates pages rows ≡ true
      → (PagesLead table templates pages × AllByRecursion (LeadsByTable table) templates) × (faults_of_registry u ≡ [])
  accepted-leads templates pages is =
      let first = each_once (pages_findings u rows templates pages) in
      let parts = found_faults (faults_of_registry u) in
      let others = templates_findings u rows templates in
      let clean = accepts-clean templates pages is in
      let rest = clean-later table first (both_findings parts others) clean in (
        (
          pages-lead templates pages
              (clean-once table (pages_findings u rows templates pages) (clean-first table first (both_findings parts others) clean)),
          templates-lead templates (clean-later table parts others rest),
        ),
        (clean-first table parts others rest).faults,
      )

pub right_to_accept : (p : Setting) → IsRightToAccept p
right_to_accept p u templates pages rows all is =
    let leads = accepted-leads u rows templates pages is in (
      leads.0.0,
      λ n x registered. All-contains (LeadsByTable (table_of (registered_in u) rows)) templates (n, x)
          (All-from_recursion (LeadsByTable (table_of (registered_in u) rows)) templates leads.0.1) (all n x registered),
    )

-- A page leads from the beginning of a document.
page-leads : (p : Setting) (table : Table html_rule) (templates : List (Text × Tree)) → AreAll p.parts.template templates
    → IsClosed p html_rule table → (pages : Pages) → PagesLead table templates pages → (t : Tree) → IsPage p.parts.template pages t
    → Leads html_rule table t beginning (λ g. Unit {0})
page-leads p table templates all closed (source s) leads t is =
    subst (λ (z : Tree). Leads html_rule table z beginning (λ g. Unit {0})) is leads
page-leads p table templates all closed all_templates leads t is =
    Leads-weaker html_rule table t beginning (table.leaves is.0 beginning) (λ g. Unit {0}) (λ g end. tt)
    (closed is.0 t is.1 beginning (All-contains (λ x. table.enters x.0 beginning) templates (is.0, t)
    (All-from_recursion (λ x. table.enters x.0 beginning) templates leads) (all is.0 t is.1)))

pub accepted_keep_data_safe : (p : Setting) → AcceptedKeepDataSafe p
accepted_keep_data_safe p u lists templates all pages verdict t page recursive ps o r =
    let leads = right_to_accept p u templates pages verdict.0 all verdict.1 in
    let usual = has_usual_parts p u lists (accepted-leads u verdict.0 templates pages verdict.1).1 in
    let table = table_of (registered_in u) verdict.0 in
    data_stands_safely p usual.0 table usual.1 leads.1 t (page-leads p table templates all leads.1 pages leads.0 t page)
    recursive ps o r

-- ---- right to refuse

module _ (u : UserDefined) (none : faults_of_registry u ≡ []) (table : Table html_rule) (users : table.registered ≡ registered_in u)
    (templates : List (Text × Tree)) (all : AllByRecursion (LeadsByTable table) templates) (pages : Pages)
    (leads : PagesLead table templates pages) (rows : List Row) (known : AllByRecursion (IsInTable table) rows) where
  fine : (name : Option Text) (t : Tree) (h : Html) (end : Html → Type 0) → Leads html_rule table t h end
      → IsFine table end (tree_ends (registered_in u) rows name t (h ∷ []))
  fine name t h end lead =
      subst (λ (z : Text → Registered). IsFine table end (tree_ends z rows name t (h ∷ []))) users
      (tree-fine table rows known name t (h ∷ []) end (lead, tt))

  template-clean : (x : Text × Tree) → LeadsByTable table x → IsClean table (template_findings u rows x)
  template-clean x lead =
      entered-to_clean table rows
      (λ n h. if bytes_eq n x.0 then tree_ends (registered_in u) rows (Some x.0) x.1 (h ∷ []) else ends_in []) known
      (λ n h enters. of_name n h enters (bytes_eq n x.0) (text-is n x.0))
    where
      of_name : (n : Text) (h : Html) → table.enters n h → (z : Bool) → (z ≡ true → n ≡ x.0)
          → IsFine table (table.leaves n h) (if z then tree_ends (registered_in u) rows (Some x.0) x.1 (h ∷ []) else ends_in [])
      of_name n h enters true to =
          fine (Some x.0) x.1 h (table.leaves n h) (subst (λ (z : Text). Leads html_rule table x.1 h (table.leaves z h)) (sym (to refl))
          (lead h (subst (λ (z : Text). table.enters z h) (to refl) enters)))
      of_name n h enters false to = fine-states table (table.leaves n h) [] tt

  templates-clean : (xs : List (Text × Tree)) → AllByRecursion (LeadsByTable table) xs
      → IsClean table (templates_findings u rows xs)
  templates-clean [] lead = record { rows = tt; faults = refl }
  templates-clean (x ∷ xs) lead =
      clean-both table (each_once (template_findings u rows x)) (templates_findings u rows xs)
      (once-clean table (template_findings u rows x) (template-clean x lead.0)) (templates-clean xs lead.1)

  pages-clean : (which : Pages) → PagesLead table templates which → IsClean table (pages_findings u rows templates which)
  pages-clean (source t) lead = (fine None t beginning (λ g. Unit {0}) lead).clean
  pages-clean all_templates lead = record {
    rows = All-to_map (IsInTable table) (λ x. entering x.0 beginning) templates lead;
    faults = refl;
  }

  pub round-clean : IsClean table (round u rows templates pages)
  round-clean =
      clean-both table (each_once (pages_findings u rows templates pages))
      (both_findings (found_faults (faults_of_registry u)) (templates_findings u rows templates))
      (once-clean table (pages_findings u rows templates pages) (pages-clean pages leads))
      (clean-both table (found_faults (faults_of_registry u)) (templates_findings u rows templates)
      (record { rows = tt; faults = none }) (templates-clean templates all))

pub right_to_refuse : (p : Setting) → IsRightToRefuse p
right_to_refuse p u none templates registered table users closed pages leads n = (clean n (known n)).faults
  where
    all : AllByRecursion (LeadsByTable table) templates
    all = All-has (LeadsByTable table) templates (λ x has. closed x.0 x.1 (registered x.0 x.1 has))

    clean : (n : ℕ) → AllByRecursion (IsInTable table) (searched u templates pages n)
        → IsClean table (round u (searched u templates pages n) templates pages)
    clean n known = round-clean u none table users templates all pages leads (searched u templates pages n) known

    known : (n : ℕ) → AllByRecursion (IsInTable table) (searched u templates pages n)
    known zero = tt
    known (suc n) =
        with_rows-all table (searched u templates pages n) (round u (searched u templates pages n) templates pages).rows (known n)
        (clean n (known n)).rows

-- ---- rows that are needed

has_row-of : (registered : Text → Registered) (rows : List Row) (r : Row) → IsInTable (table_of registered rows) r → has_row rows r ≡ true
has_row-of registered rows (entering n h) is = is
has_row-of registered rows (leaving n h g) is = is

module _ (u : UserDefined) (templates : List (Text × Tree)) (pages : Pages) where
  -- what the rows say
  abbrev by : List Row → Table html_rule
  by rows = table_of (registered_in u) rows

  needed-known : (rows others : List Row) → AreNeeded u templates pages rows → accepts u templates pages others ≡ true
      → AllByRecursion (IsInTable (by others)) rows
  needed-known rows others needed is =
      All-of_test (IsInTable (by others)) (has_row others) (has_row-is (registered_in u) others) rows (needed others is)

  known-needed : (rows others : List Row) → AllByRecursion (IsInTable (by others)) rows → list_all (has_row others) rows ≡ true
  known-needed [] others all = refl
  known-needed (r ∷ rows) others all =
      ap (λ (x : Bool). x && list_all (has_row others) rows) (has_row-of (registered_in u) others r all.0)
      ∙ known-needed rows others all.1

  -- What is needed is what each table has that is accepted.
  by_accepted : (rows : List Row) → ((others : List Row) → accepts u templates pages others ≡ true
      → AllByRecursion (IsInTable (by others)) rows) → AreNeeded u templates pages rows
  by_accepted rows to others is = known-needed rows others (to others is)

  -- A round by rows that are needed finds no fault, and rows that another table has, if that is accepted.
  clean-by : (rows others : List Row) → AreNeeded u templates pages rows → accepts u templates pages others ≡ true
      → IsClean (by others) (round u rows templates pages)
  clean-by rows others needed is =
      let leads = accepted-leads u others templates pages is in
      round-clean u leads.1 (by others) refl templates leads.0.1 pages leads.0.0 rows (needed-known rows others needed is)

  pub needed-none : AreNeeded u templates pages []
  needed-none others is = refl

  pub needed-with : (rows rs : List Row) → AreNeeded u templates pages rows → AreNeeded u templates pages rs
      → AreNeeded u templates pages (with_rows rows rs)
  needed-with rows rs first second = by_accepted (with_rows rows rs) (λ others is.
      with_rows-all (by others) rows rs (needed-known rows others first is) (needed-known rs others second is))

  -- The rows are needed that a round finds by rows that are needed.
  pub needed-round : (rows : List Row) → AreNeeded u templates pages rows
      → AreNeeded u templates pages (round u rows templates pages).rows
  needed-round rows needed =
      by_accepted (round u rows templates pages).rows (λ others is. (clean-by rows others needed is).rows)

  -- So are those that the pages need.
  pub needed-pages : (rows : List Row) → AreNeeded u templates pages rows
      → AreNeeded u templates pages (pages_findings u rows templates pages).rows
  needed-pages rows needed = by_accepted (pages_findings u rows templates pages).rows (λ others is.
      All-first (IsInTable (by others)) (pages_findings u rows templates pages).rows
      (both_findings (found_faults (faults_of_registry u)) (templates_findings u rows templates)).rows
      (clean-by rows others needed is).rows)

  -- Those that a table lacks are needed if all are.
  pub needed-missing : (table rs : List Row) → AreNeeded u templates pages rs
      → AreNeeded u templates pages (with_missing table [] rs)
  needed-missing table rs needed others is = with_missing-all (has_row others) table [] rs refl (needed others is)

  -- So are those that a template needs where it is included as rows say that are needed.
  pub needed-entering : (rows : List Row) → AreNeeded u templates pages rows → (x : Text × Tree) → Contains templates x
      → (h : Html) → has_entering rows x.0 h ≡ true
      → AreNeeded u templates pages (findings_of_entering x.0 h (tree_ends (registered_in u) rows (Some x.0) x.1 (h ∷ []))).rows
  needed-entering rows needed x stored h has =
      by_accepted (findings_of_entering x.0 h (tree_ends (registered_in u) rows (Some x.0) x.1 (h ∷ []))).rows (λ others is.
      let table = by others in
      let known = needed-known rows others needed is in
      let all = (accepted-leads u others templates pages is).0.1 in
      let leads = All-contains (LeadsByTable table) templates x (All-from_recursion (LeadsByTable table) templates all) stored in
      (entering-to_clean table x.0 h (tree_ends (registered_in u) rows (Some x.0) x.1 (h ∷ []))
      (tree-fine table rows known (Some x.0) x.1 (h ∷ []) (table.leaves x.0 h)
      (leads h (entering-known table rows known x.0 h has), tt))).rows)

  -- If some rows are accepted, then those that are needed show no fault.
  no_faults_by : (rows others : List Row) → AreNeeded u templates pages rows → accepts u templates pages others ≡ true
      → faults_by u templates pages rows ≡ []
  no_faults_by rows others needed is = (clean-by rows others needed is).faults

  needed-searched : (n : ℕ) → AreNeeded u templates pages (searched u templates pages n)
  needed-searched zero = needed-none
  needed-searched (suc n) =
      needed-with (searched u templates pages n) (round u (searched u templates pages n) templates pages).rows
      (needed-searched n) (needed-round (searched u templates pages n) (needed-searched n))

-- A round by rows that are needed, which finds no row that is missing, decides.
pub round-decides : (u : UserDefined) (templates : List (Text × Tree)) (pages : Pages) (rows : List Row)
    → AreNeeded u templates pages rows → with_missing rows [] (round u rows templates pages).rows ≡ []
    → IsVerdict u templates pages (verdict_in (round u rows templates pages).faults)
round-decides u templates pages rows needed missing = by (round u rows templates pages).faults refl
  where
    by : (xs : List Fault) → (round u rows templates pages).faults ≡ xs → IsVerdict u templates pages (verdict_in xs)
    by [] none = (rows, accepts-none rows (round u rows templates pages) missing none)
    by (x ∷ xs) is = (rows, needed, with_missing-none rows (round u rows templates pages).rows missing, sym is, λ never. true-false (ap (λ (ys : List Fault). is_some_fault ys) never))

pub accepted_have_no_faults : AcceptedHaveNoFaults
accepted_have_no_faults u templates pages accepted = (
  λ xs some. some.4 (some.3 ∙ no_faults_by u templates pages some.0 accepted.0 some.1 accepted.1),
  λ n. no_faults_by u templates pages (searched u templates pages n) accepted.0 (needed-searched u templates pages n) accepted.1,
)
