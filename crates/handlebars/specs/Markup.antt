-- What is reported of the markup that a registry's templates write: every location that keeps it from being fixed, in order.
use Rattle.std.specs.Cmp.Lexicographic.{slice_cmp}
use Rattle.std.specs.Global.{Global}
use Rattle.std.specs.List.{filter, list_any, Contains}
use Rattle.std.specs.List.Sorted.{IsStrictlySortedBy}
use Rattle.std.specs.Ordering.{nat_cmp}
use Rattle.std.specs.Prelude.{◌≡◌, Bool, cond, is_some, not, List, [], ◌∷◌, ◌++◌, Option, None, Some, String, map, string_bytes}
use Rattle.std.specs.Str.{bytes_eq}
use Rattle.handlebars_base.specs.Bytes.{Text}
use Rattle.handlebars_base.specs.Optional.{with_or}
use Rattle.handlebars_template.specs.Tree.{Tree}
use Rattle.handlebars_helpers.specs.UserAnswers.{UserAnswers, Registrations}
use Rattle.handlebars_semantics.specs.Answer.{Beginning, a_tree}
use Rattle.handlebars_semantics.specs.State.{Parts}
use Rattle.handlebars_markup.specs.Blind.{IsBlindTree}
use Rattle.handlebars_markup.specs.declared.fault.MarkupFault.{MarkupFault}
use Rattle.handlebars_markup.specs.FaultsView.{fault_of}
use Rattle.handlebars_markup.specs.Faults.{Fault, faults_of_parts, faults_of_tree}
use Rattle.handlebars_markup.specs.TwoRuns.{IsBlind, registrations}
use Rattle.handlebars.specs.Files.{overlaid_on}
use Rattle.handlebars.specs.Over.{parts_over}
use Rattle.handlebars.specs.View.{stored_tree}
use Rattle.handlebars.specs.declared.registry.RegistryOf.{RegistryOf}
use Rattle.handlebars.specs.declared.registry.markup.Markup.{Markup}

-- a rendering that begins with no tree of its own: only what is registered is checked
abbrev pub NoSource : Beginning → Type 0
NoSource b = ⊥

module _ (p : Parts) (begins : Beginning → Type 0) where
  -- A fault of the parts, of the tree that a rendering begins with, or of a tree under a name.
  pub data IsFaultOf : Fault → Type 0 where
    of_parts : {f : Fault} → Contains (faults_of_parts (registrations p)) f → IsFaultOf f
    of_source : {t : Tree} {f : Fault} → begins (a_tree t) → Contains (faults_of_tree (registrations p) None t) f → IsFaultOf f
    of_stored : {n : Text} {t : Tree} {f : Fault} → p.template n ≡ Some t
        → Contains (faults_of_tree (registrations p) (Some n) t) f → IsFaultOf f

  -- All faults are reported, and nothing else.
  pub record ReportsFaults (fs : List Fault) : Type 0 where
    pub only : (f : Fault) → Contains fs f → IsFaultOf f
    pub all : (f : Fault) → IsFaultOf f → Contains fs f

  -- Everything is blind, as the law of two runs requires.
  pub record IsAllBlind : Type 0 where
    pub registered : IsBlind p
    pub source : (t : Tree) → begins (a_tree t) → IsBlindTree (registrations p) t

-- ---- name by name

-- the faults of what is registered under a name, if anything is
abbrev pub faults_under : Registrations → (Text → Option Tree) → Text → List Fault
faults_under r template n = with_or (template n) (faults_of_tree r (Some n)) []

abbrev pub faults_under_all : Registrations → (Text → Option Tree) → List Text → List Fault
faults_under_all r template [] = []
faults_under_all r template (n ∷ ns) = faults_under r template n ++ faults_under_all r template ns

-- the names of a map
abbrev pub key_names : {X : Type 0} → List (String Global × X) → List Text
key_names es = map (λ e. string_bytes e.0) es

-- those of them under which nothing was read
abbrev pub unread : (Text → Option Tree) → List Text → List Text
unread read = filter (λ n. not (is_some (read n)))

-- ---- in which order

abbrev pub AreInByteOrder : List Text → Type 0
AreInByteOrder = IsStrictlySortedBy (slice_cmp nat_cmp)

abbrev pub is_name_among : Text → List Text → Bool
is_name_among n = list_any (bytes_eq n)

-- These are the names under which trees are registered, in byte order, each once.
pub record AreNamesOf (trees : Text → Option Tree) (ns : List Text) : Type 0 where
  pub order : AreInByteOrder ns
  pub names : (n : Text) → is_name_among n ns ≡ is_some (trees n)

-- the trees below, without those under whose names there is a tree above
abbrev pub uncovered : (Text → Option Tree) → (Text → Option Tree) → Text → Option Tree
uncovered above below n = cond (is_some (above n)) None (below n)

-- A rendering begins with this tree, or with none of its own.
abbrev pub HasInitialTree : (Beginning → Type 0) → Option Tree → Type 0
HasInitialTree begins (Some t) = begins (a_tree t)
HasInitialTree begins None = (t : Tree) → begins (a_tree t) → ⊥

-- the faults of that tree
abbrev pub faults_of_source_tree : Registrations → Option Tree → List Fault
faults_of_source_tree r t = with_or t (faults_of_tree r None) []

module _ (r : Registrations) (above below : Text → Option Tree) where
  -- the faults of what is registered: beside templates, under the first names, and under the second names
  abbrev pub faults_registered : List Text → List Text → List Fault
  faults_registered ns ms =
      faults_of_parts r ++ (faults_under_all r (overlaid_on above below) ns ++ faults_under_all r (overlaid_on above below) ms)

  -- First come the faults of the tree that a rendering begins with, in the order of its source. Then come those of what is
  -- registered beside templates, then those of the trees above, in byte order of name, and then those of all others, in byte
  -- order of name too.
  pub record AreReportedInOrder (begins : Beginning → Type 0) (fs : List Fault) : Type 0 where
    pub source_tree : Option Tree
    pub begins_with : HasInitialTree begins source_tree
    pub first : List Text
    pub rest : List Text
    pub are_above : AreNamesOf above first
    pub are_below : AreNamesOf (uncovered above below) rest
    pub reported : fs ≡ faults_of_source_tree r source_tree ++ faults_registered first rest

-- There is one such list.
abbrev pub AreReportedOnce : (Beginning → Type 0) → Type 0
AreReportedOnce begins = (r : Registrations) (above below : Text → Option Tree) (fs gs : List Fault)
    → AreReportedInOrder r above below begins fs → AreReportedInOrder r above below begins gs → fs ≡ gs

-- ---- what is reported

module _ {E : Type 0} (registered : E → Registrations) (user : E → UserAnswers) (trees : Text → Option Tree) (r : RegistryOf E)
    (begins : Beginning → Type 0) where
  -- All faults are reported and no others, in order, with these trees over those of a registry.
  pub record Reports (fs : List Fault) : Type 0 where
    pub faults : ReportsFaults (parts_over registered user trees r) begins fs
    pub order : AreReportedInOrder (registered r.entries) trees (stored_tree r) begins fs

  -- The markup is fixed only if everything is blind; if it isn't, the first of all faults is reported.
  abbrev pub Judges : Markup → Type 0
  Judges Markup.Fixed = IsAllBlind (parts_over registered user trees r) begins
  Judges (Markup.NotFixed m) = (fs : List Fault) × Reports (fault_of m ∷ fs)

-- ---- what is reported first

abbrev pub first_reported : List MarkupFault → Markup
first_reported [] = Markup.Fixed
first_reported (m ∷ ms) = Markup.NotFixed m
