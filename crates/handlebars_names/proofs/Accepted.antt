-- A page that is accepted fails only for what is still possible.
use Rattle.std.proofs.Common.{◌≡◌, Bool, true, false, ◌&&◌, List, [], ◌∷◌, refl, sym, ap, ◌∙◌, subst, Option, None, Some}
use Rattle.std.specs.List.{AllByRecursion, list_all}
use Rattle.handlebars_base.specs.Bytes.{Text}
use Rattle.handlebars_base.specs.Optional.{with_or}
use Rattle.handlebars_template.specs.Tree.{Tree}
use Rattle.handlebars_semantics.specs.State.{Setting}
use Rattle.handlebars_html.specs.Search.{AreAll}
use Rattle.handlebars_laws.proofs.Lists.{All-first, All-later, All-has}
use Rattle.handlebars_names.specs.Check.{tree_findings, is_fine, AreFine}
use Rattle.handlebars_names.specs.Faults.{Fault, Finding, fault, includes}
use Rattle.handlebars_names.specs.Law.{AreFineUnder}
use Rattle.handlebars_names.specs.Names.{Names}
use Rattle.handlebars_names.specs.Scopes.{Scope, first_scope, covers, Entry, scope_at}
use Rattle.handlebars_names.specs.Search.{Page, a_source, a_template, page_findings, findings_under, templates_findings, round, faults_among, is_entered, IsVerdict, verdict_in, AcceptedFailOnlySo}
use Rattle.handlebars_names.proofs.KnownNames.{known_names_fail_only_so}

and-parts : (a b : Bool) → (a && b) ≡ true → (a ≡ true) × (b ≡ true)
and-parts true b is = (refl, is)
and-parts false b is = cc

-- Where all is entered, and nothing is a fault, all is fine.
pub all-fine : (table : List Entry) (xs : List Finding) → list_all (is_entered table) xs ≡ true → faults_among xs ≡ []
    → AreFine table xs
all-fine table [] entered none = tt
all-fine table (fault x ∷ xs) entered none = cc
all-fine table (includes n h ∷ xs) entered none =
    let both = and-parts (is_entered table (includes n h)) (list_all (is_entered table) xs) entered in
    (both.0, all-fine table xs both.1 none)

module _ (names : Names) (table : List Entry) where
  abbrev Fine : Text × Tree → Type 0
  Fine x = AreFine table (findings_under names table (scope_at table x.0) x.0 x.1)

  templates-fine : (xs : List (Text × Tree)) → AreFine table (templates_findings names table xs) → AllByRecursion Fine xs
  templates-fine [] fine = tt
  templates-fine (x ∷ xs) fine = (
    All-first (λ y. is_fine table y ≡ true) (findings_under names table (scope_at table x.0) x.0 x.1) _ fine,
    templates-fine xs (All-later (λ y. is_fine table y ≡ true) (findings_under names table (scope_at table x.0) x.0 x.1) _ fine),
  )

  -- so is each registered template
  all-under : (template : Text → Option Tree) (xs : List (Text × Tree)) → AreAll template xs
      → AreFine table (templates_findings names table xs) → AreFineUnder names table template
  all-under template xs all fine n t is h there = (
    Some n,
    subst (λ (o : Option Scope). AreFine table (findings_under names table o n t)) there
        (All-has Fine xs (n, t) (templates-fine xs fine) (all n t is)),
  )

entry-of : (table : List Entry) (n : Text) → is_fine table (includes n first_scope) ≡ true
    → (h : Scope) × (scope_at table n ≡ Some h) × (covers h first_scope ≡ true)
entry-of table n is = by (scope_at table n) refl is
  where
    by : (o : Option Scope) → scope_at table n ≡ o → with_or o (λ g. covers g first_scope) false ≡ true
        → (h : Scope) × (scope_at table n ≡ Some h) × (covers h first_scope ≡ true)
    by None same e = cc
    by (Some g) same e = (g, same, e)

pub accepted_fail_only_so : (p : Setting) → AcceptedFailOnlySo p
accepted_fail_only_so p names are pass templates all (a_source s) v t same recursive ps o r =
    let page = All-first (λ y. is_fine v.0 y ≡ true) (page_findings names v.0 (a_source s)) _ v.1 in
    let under = all-under names v.0 p.parts.template templates all
    (All-later (λ y. is_fine v.0 y ≡ true) (page_findings names v.0 (a_source s)) _ v.1) in
    known_names_fail_only_so p names are pass v.0 under None t first_scope refl
    (subst (λ (x : Tree). AreFine v.0 (tree_findings names v.0 None x first_scope)) same page) recursive ps o r
accepted_fail_only_so p names are pass templates all (a_template n) v t is recursive ps o r =
    let page = All-first (λ y. is_fine v.0 y ≡ true) (page_findings names v.0 (a_template n)) _ v.1 in
    let under = all-under names v.0 p.parts.template templates all
    (All-later (λ y. is_fine v.0 y ≡ true) (page_findings names v.0 (a_template n)) _ v.1) in
    let entry = entry-of v.0 n page.0 in
    let fine = under n t is entry.0 entry.1 in
    known_names_fail_only_so p names are pass v.0 under fine.0 t entry.0 entry.2 fine.1 recursive ps o r

-- What is said by a closed table.
pub decided : (names : Names) (table : List Entry) (templates : List (Text × Tree)) (page : Page) (xs : List Finding) (fs : List Fault)
    → xs ≡ round names table templates page → list_all (is_entered table) xs ≡ true → fs ≡ faults_among xs
    → IsVerdict names templates page (verdict_in fs)
decided names table templates page xs [] is entered faults =
    (table, subst (AreFine table) is (all-fine table xs entered (sym faults)))
decided names table templates page xs (f ∷ fs) is entered faults = (
  table,
  ap (list_all (is_entered table)) (sym is) ∙ entered,
  faults ∙ ap faults_among is,
  λ e. cc,
)
