-- Templates are checked one after another, in the order of a map.
use Rattle.std.proofs.Common.{◌≡◌, Bool, true, false, cond, not, is_some, List, [], ◌∷◌, ◌++◌, map, Option, None, Some, option_map, String, Global, refl, sym, ap, ◌∙◌, subst, append_assoc}
use Rattle.std.specs.BTreeMap.{BTreeMap, get_by_text}
use Rattle.std.specs.Prelude.{string_bytes}
use Rattle.handlebars_base.specs.Bytes.{Text}
use Rattle.handlebars_template.specs.Tree.{Tree}
use Rattle.handlebars_template.specs.TreeView.{tree_view}
use Rattle.handlebars_template.specs.declared.template.tree.Template.{Template}
use Rattle.handlebars_helpers.specs.UserAnswers.{Registrations}
use Rattle.handlebars_markup.specs.Faults.{Fault}
use Rattle.handlebars_markup.specs.FaultsView.{fault_of, AddsFindings}
use Rattle.handlebars_markup.specs.declared.fault.MarkupFault.{MarkupFault}
use Rattle.handlebars_markup.proofs.Finding.{Accumulates, leads-goes, leads-ends}
use Rattle.handlebars.specs.Files.{tree_in}
use Rattle.handlebars.specs.Markup.{faults_under, faults_under_all, key_names, unread}

-- what is found, and then more
pub finds-then : (a b c : List MarkupFault) (xs ys : List Fault) → AddsFindings a b xs → AddsFindings b c ys → AddsFindings a c (xs ++ ys)
finds-then a b c xs ys f g = g ∙ ap (λ z. z ++ ys) f ∙ append_assoc (map fault_of a) xs ys

module _ (r : Registrations) (template : Text → Option Tree) (first : List MarkupFault) (all : List Fault) where
  abbrev LeadsOver : List MarkupFault → List Text → Type 0
  LeadsOver now ns = Accumulates first now (faults_under_all r template ns) all

  one-more : (now next : List MarkupFault) (n m : Text) (ns : List Text) → m ≡ n → LeadsOver now (n ∷ ns)
      → AddsFindings now next (faults_under r template m) → LeadsOver next ns
  one-more now next n m ns same leads finds =
      leads-goes first now next (faults_under r template n) (faults_under_all r template ns) all leads
      (subst (λ (k : Text). AddsFindings now next (faults_under r template k)) same finds)

  -- ---- those that weren't read

  module _ (read : Text → Option Tree) where
    unread-as : (n : Text) (ns : List Text) (b : Bool) → not (is_some (read n)) ≡ b
        → unread read (n ∷ ns) ≡ cond b (n ∷ unread read ns) (unread read ns)
    unread-as n ns b e = ap (λ (c : Bool). cond c (n ∷ unread read ns) (unread read ns)) e

    leads-as : (now : List MarkupFault) (es rest : List (String Global × Template)) (e : String Global × Template) (b : Bool)
        → es ≡ e ∷ rest → not (is_some (read (string_bytes e.0))) ≡ b → LeadsOver now (unread read (key_names es))
        → LeadsOver now (cond b (string_bytes e.0 ∷ unread read (key_names rest)) (unread read (key_names rest)))
    leads-as now es rest e b steps is leads =
        subst (λ (ns : List Text). LeadsOver now ns)
        (ap (λ (xs : List (String Global × Template)). unread read (key_names xs)) steps ∙ unread-as (string_bytes e.0) (key_names rest) b is)
        leads

    pub unread-next : (now next : List MarkupFault) (es rest : List (String Global × Template)) (e : String Global × Template)
        (m : Text) → es ≡ e ∷ rest → m ≡ string_bytes e.0 → not (is_some (read (string_bytes e.0))) ≡ true
        → LeadsOver now (unread read (key_names es)) → AddsFindings now next (faults_under r template m)
        → LeadsOver next (unread read (key_names rest))
    unread-next now next es rest e m steps same is leads finds =
        one-more now next (string_bytes e.0) m (unread read (key_names rest)) same (leads-as now es rest e true steps is leads) finds

    pub unread-skip : (now : List MarkupFault) (es rest : List (String Global × Template)) (e : String Global × Template)
        → es ≡ e ∷ rest → not (is_some (read (string_bytes e.0))) ≡ false → LeadsOver now (unread read (key_names es))
        → LeadsOver now (unread read (key_names rest))
    unread-skip now es rest e steps is leads = leads-as now es rest e false steps is leads

    pub unread-end : (now : List MarkupFault) (es : List (String Global × Template)) → es ≡ []
        → LeadsOver now (unread read (key_names es)) → AddsFindings first now all
    unread-end now es none leads =
        leads-ends first now (faults_under_all r template (unread read (key_names es))) all leads
        (ap (λ (xs : List (String Global × Template)). faults_under_all r template (unread read (key_names xs))) none)

-- ---- what was read

is_some-mapped : {A B : Type 0} (f : A → B) (o : Option A) → is_some (option_map f o) ≡ is_some o
is_some-mapped f None = refl
is_some-mapped f (Some x) = refl

-- whether something was read under a name
pub tree_in-found : (trees : BTreeMap (String Global) Template) (n m : Text) (found b : Bool)
    → found ≡ is_some (get_by_text trees m) → m ≡ n → found ≡ b → not (is_some (tree_in trees n)) ≡ not b
tree_in-found trees n m found b has same is =
    ap not (is_some-mapped tree_view (get_by_text trees n)
    ∙ subst (λ (k : Text). is_some (get_by_text trees k) ≡ b) same (sym has ∙ is))
