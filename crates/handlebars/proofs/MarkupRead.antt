-- What is reported of the trees that were read.
use Rattle.std.proofs.Common.{◌≡◌, List, [], ◌∷◌, ◌++◌, map, Option, None, Result, String, Global, sym, ap, ◌∙◌, subst}
use Rattle.std.specs.BTreeMap.{BTreeMap}
use Rattle.std.specs.Option.{option_or}
use Rattle.std.specs.declared.io.Error.{Error}
use Rattle.handlebars_base.specs.Bytes.{Text}
use Rattle.handlebars_lexer.specs.Options.{Options}
use Rattle.handlebars_template.specs.Compile.{Compiles, compiled}
use Rattle.handlebars_template.specs.Tree.{Tree}
use Rattle.handlebars_template.specs.declared.template.tree.Template.{Template}
use Rattle.handlebars_helpers.specs.UserAnswers.{UserAnswers, Registrations}
use Rattle.handlebars_semantics.specs.Answer.{Beginning, a_tree, FromSource, compiles}
use Rattle.handlebars_markup.specs.Faults.{Fault, faults_of_tree}
use Rattle.handlebars_markup.specs.FaultsView.{AddsFindings, fault_of}
use Rattle.handlebars_markup.specs.declared.fault.MarkupFault.{MarkupFault}
use Rattle.handlebars.specs.Dev.{HasRead, HoldsTrees}
use Rattle.handlebars.specs.Files.{Loaded, overlaid_on, tree_among, tree_in}
use Rattle.handlebars.specs.Markup.{AreInByteOrder, Judges, NoSource, Reports, faults_registered, first_reported, key_names, unread}
use Rattle.handlebars.specs.Over.{parts_over}
use Rattle.handlebars.specs.View.{parts_of, stored_tree}
use Rattle.handlebars.specs.declared.registry.RegistryOf.{RegistryOf}
use Rattle.handlebars.specs.declared.registry.markup.Markup.{Markup}
use Rattle.handlebars.proofs.AnswerLaws.{FromSource-one, a_tree-injective}
use Rattle.handlebars.proofs.MarkupFaults.{blind-unreported, named-both, reports-registered, reports-same, reports-source}
use Rattle.handlebars.proofs.MarkupOrder.{names-of, names-unread, order-source_tree, order-registered, order-same}

-- a list to which these faults were added, from none on
from-none : (a b : List MarkupFault) (xs : List Fault) → a ≡ [] → AddsFindings a b xs → map fault_of b ≡ xs
from-none a b xs none finds = finds ∙ ap (λ (ms : List MarkupFault). map fault_of ms ++ xs) none

module _ {E : Type 0} (registered : E → Registrations) (user : E → UserAnswers) (r : RegistryOf E) where
  -- what is reported of a map of trees is reported of what was read into it
  reports-under : (begins : Beginning → Type 0) (read : List Loaded) (trees : BTreeMap (String Global) Template) (fs : List Fault)
      → HoldsTrees read trees → Reports registered user (tree_in trees) r begins fs → Reports registered user (tree_among read) r begins fs
  reports-under begins read trees fs holds reports = record {
    faults = reports-same (parts_of registered user r) begins (overlaid_on (tree_in trees) (stored_tree r))
        (overlaid_on (tree_among read) (stored_tree r)) fs (λ n. ap (λ o. option_or o (stored_tree r n)) (holds n)) reports.faults;
    order = order-same (registered r.entries) (stored_tree r) (tree_in trees) (tree_among read) holds begins fs reports.order;
  }

  pub reported-by-name : (read : List Loaded) (trees : BTreeMap (String Global) Template) (a b : List MarkupFault) (fs : List Fault)
      → HoldsTrees read trees → a ≡ [] → AddsFindings a b fs → Reports registered user (tree_in trees) r NoSource fs
      → Reports registered user (tree_among read) r NoSource (map fault_of b)
  reported-by-name read trees a b fs holds none finds reports =
      subst (λ (xs : List Fault). Reports registered user (tree_among read) r NoSource xs) (sym (from-none a b fs none finds))
      (reports-under NoSource read trees fs holds reports)

  -- the faults of a rendering's own tree are reported before all others
  reports-source_tree : (trees : Text → Option Tree) (begins : Beginning → Type 0) (t : Tree) (fs : List Fault) → begins (a_tree t)
      → ((u : Tree) → begins (a_tree u) → u ≡ t) → Reports registered user trees r NoSource fs
      → Reports registered user trees r begins (faults_of_tree (registered r.entries) None t ++ fs)
  reports-source_tree trees begins t fs b one reports = record {
    faults = reports-source (parts_over registered user trees r) begins t fs b one reports.faults;
    order = order-source_tree (registered r.entries) trees (stored_tree r) begins t fs b reports.order;
  }

  pub reported-by-source : (options : Options) (source : Text) (t : Tree) (read : List Loaded)
      (trees : BTreeMap (String Global) Template) (a b c : List MarkupFault) (fs : List Fault)
      → Compiles source options (compiled t) → HoldsTrees read trees → a ≡ []
      → AddsFindings a b (faults_of_tree (registered r.entries) None t) → AddsFindings b c fs
      → Reports registered user (tree_in trees) r NoSource fs
      → Reports registered user (tree_among read) r (FromSource options source) (map fault_of c)
  reported-by-source options source t read trees a b c fs made holds none first rest reports =
      subst (λ (xs : List Fault). Reports registered user (tree_among read) r (FromSource options source) xs)
      (sym (rest ∙ ap (λ (xs : List Fault). xs ++ fs) (from-none a b _ none first)))
      (reports-source_tree (tree_among read) (FromSource options source) t fs (compiles made)
      (λ u begins. a_tree-injective (FromSource-one options source (a_tree u) (a_tree t) begins (compiles made)))
      (reports-under NoSource read trees fs holds reports))

  first_reported-judges : (trees : Text → Option Tree) (begins : Beginning → Type 0) (ms : List MarkupFault)
      → Reports registered user trees r begins (map fault_of ms) → Judges registered user trees r begins (first_reported ms)
  first_reported-judges trees begins [] h = blind-unreported (parts_over registered user trees r) begins h.faults
  first_reported-judges trees begins (m ∷ ms) h = (map fault_of ms, h)

  -- the first of what is reported
  pub judged : {S : Type 0} (reads : S → Text → Result (String Global) Error → S → Type 0) (asked : Option Text) (before after : S)
      (begins : Beginning → Type 0) (ms : List MarkupFault) (m : Markup) → m ≡ first_reported ms
      → HasRead reads r asked before after (λ read. Reports registered user (tree_among read) r begins (map fault_of ms))
      → HasRead reads r asked before after (λ read. Judges registered user (tree_among read) r begins m)
  judged reads asked before after begins ms m first reported = record {
    read = reported.read;
    reads_all = reported.reads_all;
    holds = subst (λ (x : Markup). Judges registered user (tree_among reported.read) r begins x) (sym first)
        (first_reported-judges (tree_among reported.read) begins ms reported.holds);
  }

-- what is in two maps, one overlaid on the other, is reported name by name
pub reported-in-maps : {E : Type 0} (registered : E → Registrations) (user : E → UserAnswers) (r : RegistryOf E)
    (read : BTreeMap (String Global) Template) → AreInByteOrder (key_names read.entries) → AreInByteOrder (key_names r.templates.entries)
    → Reports registered user (tree_in read) r NoSource (faults_registered (registered r.entries) (tree_in read) (stored_tree r)
    (key_names read.entries) (unread (tree_in read) (key_names r.templates.entries)))
reported-in-maps registered user r read first second = record {
  faults = reports-registered (parts_over registered user (tree_in read) r) (key_names read.entries)
      (unread (tree_in read) (key_names r.templates.entries)) (named-both read.entries r.templates.entries);
  order = order-registered (registered r.entries) (tree_in read) (stored_tree r) (key_names read.entries)
      (unread (tree_in read) (key_names r.templates.entries)) (names-of read first) (names-unread (tree_in read) r.templates second);
}
