-- The order in which faults are reported.
use Rattle.std.proofs.Common.{◌≡◌, Bool, true, false, ◌&&◌, ◌||◌, cond, not, is_some, List, [], ◌∷◌, ◌++◌, map, Option, None, Some, option_map, String, Global, refl, sym, ap, ◌∙◌}
use Rattle.std.proofs.lemmas.Bool.{false≢true}
use Rattle.std.proofs.lemmas.Cmp.{nat_list_cmp_total}
use Rattle.std.proofs.lemmas.List.Kept.{IsStrictlySortedBy-filter}
use Rattle.std.proofs.lemmas.Map.Lookups.{btree_set_from_contains, exact_bytes}
use Rattle.std.proofs.lemmas.Map.Text.{is_eq-slice_cmp}
use Rattle.std.proofs.lemmas.Slice.Eq.{bytes_eq-Decides}
use Rattle.std.specs.BTreeMap.{BTreeMap, is_at}
use Rattle.std.specs.Cmp.Lexicographic.{slice_cmp}
use Rattle.std.specs.List.{AllByRecursion, filter, list_any}
use Rattle.std.specs.List.Sorted.{IsStrictlySortedBy}
use Rattle.std.specs.Map.{keys_of, lookup}
use Rattle.std.specs.Option.{option_or}
use Rattle.std.specs.Ordering.{is_eq, nat_cmp}
use Rattle.std.specs.Prelude.{string_bytes}
use Rattle.std.specs.Str.{bytes_eq}
use Rattle.std.specs.String.{string_cmp}
use Rattle.handlebars_base.specs.Bytes.{Text}
use Rattle.handlebars_base.specs.Optional.{with_or}
use Rattle.handlebars_template.specs.Tree.{Tree}
use Rattle.handlebars_template.specs.TreeView.{tree_view}
use Rattle.handlebars_template.specs.declared.template.tree.Template.{Template}
use Rattle.handlebars_helpers.specs.UserAnswers.{Registrations}
use Rattle.handlebars_semantics.specs.Answer.{Beginning, a_tree}
use Rattle.handlebars_markup.specs.Faults.{Fault, faults_of_parts, faults_of_tree}
use Rattle.handlebars.specs.Files.{overlaid_on, tree_in}
use Rattle.handlebars.specs.Markup.{AreInByteOrder, AreNamesOf, AreReportedInOrder, AreReportedOnce, HasInitialTree, NoSource, faults_of_source_tree, faults_registered, faults_under, faults_under_all, is_name_among, key_names, uncovered, unread}

-- ---- the names of a map

all-named : {X : Type 0} (P : Text → Type 0) (es : List (String Global × X)) → AllByRecursion (λ k. P (string_bytes k)) (keys_of es)
    → AllByRecursion P (key_names es)
all-named P [] h = h
all-named P (e ∷ es) h = (h.0, all-named P es h.1)

pub names-in-order : {X : Type 0} (es : List (String Global × X)) → IsStrictlySortedBy string_cmp (keys_of es)
    → AreInByteOrder (key_names es)
unfolding IsStrictlySortedBy
names-in-order [] h = h
names-in-order (e ∷ es) h = (all-named _ es h.0, names-in-order es h.1)

first-among : (b c rest : Bool) (x : Template) (o : Option Template) → b ≡ c → rest ≡ is_some (option_map tree_view o)
    → (c || rest) ≡ is_some (option_map tree_view (cond b (Some x) o))
first-among true true rest x o same e = refl
first-among true false rest x o same e = cc
first-among false true rest x o same e = cc
first-among false false rest x o same e = e

-- a name is among those of a map exactly if the map has a tree under it
among-found : (n : Text) (es : List (String Global × Template))
    → is_name_among n (key_names es) ≡ is_some (option_map tree_view (lookup (λ q. is_eq (slice_cmp nat_cmp n (string_bytes q))) es))
among-found n [] = refl
among-found n (e ∷ es) =
    first-among (is_eq (slice_cmp nat_cmp n (string_bytes e.0))) (bytes_eq n (string_bytes e.0)) _ e.1 _
    (is_eq-slice_cmp n (string_bytes e.0)) (among-found n es)

pub names-of : (trees : BTreeMap (String Global) Template) → AreInByteOrder (key_names trees.entries)
    → AreNamesOf (tree_in trees) (key_names trees.entries)
names-of trees order = record { order = order; names = λ n. among-found n trees.entries }

-- ---- the names that are left

retained-or-not : (a b c x y : Bool) → x ≡ (a && y) → (c ≡ true → a ≡ b) → cond b (c || x) x ≡ (a && (c || y))
retained-or-not true true true x y e same = refl
retained-or-not true true false x y e same = e
retained-or-not true false true x y e same = absurd (false≢true (sym (same refl)))
retained-or-not true false false x y e same = e
retained-or-not false true true x y e same = absurd (false≢true (same refl))
retained-or-not false true false x y e same = e
retained-or-not false false true x y e same = e
retained-or-not false false false x y e same = e

among-cond : (n m : Text) (ns : List Text) (b : Bool)
    → is_name_among n (cond b (m ∷ ns) ns) ≡ cond b (bytes_eq n m || is_name_among n ns) (is_name_among n ns)
among-cond n m ns true = refl
among-cond n m ns false = refl

none-retained : (b : Bool) → false ≡ (b && false)
none-retained true = refl
none-retained false = refl

among-filter : (p : Text → Bool) (n : Text) (ns : List Text) → is_name_among n (filter p ns) ≡ (p n && is_name_among n ns)
among-filter p n [] = none-retained (p n)
among-filter p n (m ∷ ns) =
    among-cond n m (filter p ns) (p m)
    ∙ retained-or-not (p n) (p m) (bytes_eq n m) _ (is_name_among n ns) (among-filter p n ns) (λ e. ap p ((bytes_eq-Decides n m).0 e))

uncovered-some : (above below : Option Tree) → (not (is_some above) && is_some below) ≡ is_some (cond (is_some above) None below)
uncovered-some None below = refl
uncovered-some (Some t) below = refl

pub names-unread : (read : Text → Option Tree) (trees : BTreeMap (String Global) Template) → AreInByteOrder (key_names trees.entries)
    → AreNamesOf (uncovered read (tree_in trees)) (unread read (key_names trees.entries))
names-unread read trees order = record {
  order = IsStrictlySortedBy-filter (slice_cmp nat_cmp) _ (key_names trees.entries) order;
  names = λ n. among-filter (λ k. not (is_some (read k))) n (key_names trees.entries)
      ∙ ap (λ b. not (is_some (read n)) && b) (among-found n trees.entries)
      ∙ uncovered-some (read n) (tree_in trees n);
}

-- ---- other trees that are the same

pub names-same : (trees others : Text → Option Tree) (ns : List Text) → ((n : Text) → trees n ≡ others n) → AreNamesOf trees ns
    → AreNamesOf others ns
names-same trees others ns same h = record { order = h.order; names = λ n. h.names n ∙ ap is_some (same n) }

module _ (r : Registrations) where
  faults_under_all-same : (template others : Text → Option Tree) → ((n : Text) → template n ≡ others n) → (ns : List Text)
      → faults_under_all r template ns ≡ faults_under_all r others ns
  faults_under_all-same template others same [] = refl
  faults_under_all-same template others same (n ∷ ns) =
      ap (λ o. with_or o (faults_of_tree r (Some n)) [] ++ faults_under_all r template ns) (same n)
      ∙ ap (λ fs. faults_under r others n ++ fs) (faults_under_all-same template others same ns)

  module _ (below : Text → Option Tree) (above others : Text → Option Tree) (same : (n : Text) → above n ≡ others n) where
    registered-same : (ns ms : List Text) → faults_registered r above below ns ms ≡ faults_registered r others below ns ms
    registered-same ns ms =
        let over : (n : Text) → overlaid_on above below n ≡ overlaid_on others below n = λ n. ap (λ o. option_or o (below n)) (same n) in
        ap (λ fs. faults_of_parts r ++ (fs ++ faults_under_all r (overlaid_on above below) ms))
        (faults_under_all-same (overlaid_on above below) (overlaid_on others below) over ns)
        ∙ ap (λ fs. faults_of_parts r ++ (faults_under_all r (overlaid_on others below) ns ++ fs))
        (faults_under_all-same (overlaid_on above below) (overlaid_on others below) over ms)

    pub order-same : (begins : Beginning → Type 0) (fs : List Fault) → AreReportedInOrder r above below begins fs
        → AreReportedInOrder r others below begins fs
    order-same begins fs h = record {
      source_tree = h.source_tree;
      begins_with = h.begins_with;
      first = h.first;
      rest = h.rest;
      are_above = names-same above others h.first same h.are_above;
      are_below = names-same (uncovered above below) (uncovered others below) h.rest
          (λ n. ap (λ o. cond (is_some o) None (below n)) (same n)) h.are_below;
      reported = h.reported ∙ ap (λ fs. faults_of_source_tree r h.source_tree ++ fs) (registered-same h.first h.rest);
    }

-- ---- with a tree of its own

none-of-source : (t : Option Tree) → HasInitialTree NoSource t → t ≡ None
none-of-source (Some t) b = absurd b
none-of-source None b = refl

module _ (r : Registrations) (above below : Text → Option Tree) where
  pub order-registered : (ns ms : List Text) → AreNamesOf above ns → AreNamesOf (uncovered above below) ms
      → AreReportedInOrder r above below NoSource (faults_registered r above below ns ms)
  order-registered ns ms are_above are_below = record {
    source_tree = None;
    begins_with = λ t b. b;
    first = ns;
    rest = ms;
    are_above = are_above;
    are_below = are_below;
    reported = refl;
  }

  pub order-source_tree : (begins : Beginning → Type 0) (t : Tree) (fs : List Fault) → begins (a_tree t)
      → AreReportedInOrder r above below NoSource fs → AreReportedInOrder r above below begins (faults_of_tree r None t ++ fs)
  order-source_tree begins t fs b h = record {
    source_tree = Some t;
    begins_with = b;
    first = h.first;
    rest = h.rest;
    are_above = h.are_above;
    are_below = h.are_below;
    reported = ap (λ gs. faults_of_tree r None t ++ gs)
        (h.reported ∙ ap (λ o. faults_of_source_tree r o ++ faults_registered r above below h.first h.rest) (none-of-source h.source_tree h.begins_with));
  }

-- ---- one list

among-at : (n : Text) (ns : List Text) → list_any (is_at (slice_cmp nat_cmp n)) ns ≡ is_name_among n ns
among-at n [] = refl
among-at n (m ∷ ns) =
    ap (λ b. b || list_any (is_at (slice_cmp nat_cmp n)) ns) (is_eq-slice_cmp n m) ∙ ap (λ b. bytes_eq n m || b) (among-at n ns)

names-once : (trees : Text → Option Tree) (ns ms : List Text) → AreNamesOf trees ns → AreNamesOf trees ms → ns ≡ ms
names-once trees ns ms g h =
    btree_set_from_contains nat_list_cmp_total (record { keys = ns }) (record { keys = ms }) g.order h.order
    (λ n. among-at n ns ∙ g.names n ∙ sym (h.names n) ∙ sym (among-at n ms)) exact_bytes

source_tree-once : (begins : Beginning → Type 0) → ((t u : Tree) → begins (a_tree t) → begins (a_tree u) → t ≡ u) → (t u : Option Tree)
    → HasInitialTree begins t → HasInitialTree begins u → t ≡ u
source_tree-once begins one (Some t) (Some u) b c = ap Some (one t u b c)
source_tree-once begins one (Some t) None b c = absurd (c t b)
source_tree-once begins one None (Some u) b c = absurd (b u c)
source_tree-once begins one None None b c = refl

pub reported-once : (begins : Beginning → Type 0) → ((t u : Tree) → begins (a_tree t) → begins (a_tree u) → t ≡ u) → AreReportedOnce begins
reported-once begins one r above below fs gs f g =
    f.reported
    ∙ ap (λ o. faults_of_source_tree r o ++ faults_registered r above below f.first f.rest)
    (source_tree-once begins one f.source_tree g.source_tree f.begins_with g.begins_with)
    ∙ ap (λ ns. faults_of_source_tree r g.source_tree ++ faults_registered r above below ns f.rest) (names-once above f.first g.first f.are_above g.are_above)
    ∙ ap (λ ns. faults_of_source_tree r g.source_tree ++ faults_registered r above below g.first ns)
    (names-once (uncovered above below) f.rest g.rest f.are_below g.are_below)
    ∙ sym g.reported
