-- What is found name by name is all that is wrong with what is registered.
use Rattle.std.proofs.Common.{arith, ◌≡◌, Bool, true, false, cond, not, is_some, List, [], ◌∷◌, ◌++◌, map, Option, None, Some, option_map, String, Global, refl, sym, ap, ◌∙◌, subst}
use Rattle.std.proofs.Math.Logic.{◌⊎◌, inl, inr, ⊎_elim}
use Rattle.std.proofs.lemmas.Bool.{false≢true}
use Rattle.std.proofs.lemmas.List.Elements.{Contains-append_left, Contains-append_right, Contains-append_cases, Contains-push, Contains-push_cases}
use Rattle.std.proofs.lemmas.Map.Text.{is_eq-slice_cmp}
use Rattle.std.specs.Cmp.Lexicographic.{slice_cmp, bytes_decides}
use Rattle.std.specs.List.{Contains}
use Rattle.std.specs.Map.{lookup}
use Rattle.std.specs.Option.{option_or}
use Rattle.std.specs.Ordering.{is_eq, nat_cmp}
use Rattle.std.specs.Prelude.{string_bytes}
use Rattle.handlebars_base.specs.Bytes.{Text}
use Rattle.handlebars_base.specs.Optional.{with_or}
use Rattle.handlebars_template.specs.Tree.{Tree}
use Rattle.handlebars_template.specs.TreeView.{tree_view}
use Rattle.handlebars_template.specs.declared.template.tree.Template.{Template}
use Rattle.handlebars_helpers.specs.UserAnswers.{Registrations}
use Rattle.handlebars_semantics.specs.Answer.{Beginning, a_tree}
use Rattle.handlebars_semantics.specs.State.{Parts}
use Rattle.handlebars_markup.specs.Faults.{Fault, faults_of_parts, faults_of_tree}
use Rattle.handlebars_markup.specs.FaultsView.{fault_of}
use Rattle.handlebars_markup.specs.TwoRuns.{registrations}
use Rattle.handlebars_markup.specs.declared.fault.MarkupFault.{MarkupFault}
use Rattle.handlebars_markup.proofs.Faults.{decide_trees, decide_parts}
use Rattle.handlebars.specs.Files.{overlaid_on}
use Rattle.handlebars.specs.Markup.{NoSource, IsFaultOf, of_parts, of_source, of_stored, ReportsFaults, IsAllBlind, faults_under, faults_under_all, key_names, unread}

-- ---- elements of lists

pub Contains-nil : {X : Type 0} {P : Type 0} (x : X) → Contains [] x → P
Contains-nil x h = let less = h.1 in absurd (omega arith)

pub Contains-head : {X : Type 0} (x : X) (xs : List X) → Contains (x ∷ xs) x
Contains-head x xs = Contains-append_left (x ∷ []) xs x (Contains-push [] x)

pub Contains-after : {X : Type 0} (x : X) (xs : List X) (y : X) → Contains xs y → Contains (x ∷ xs) y
Contains-after x xs y h = Contains-append_right (x ∷ []) xs y h

-- the one element of a list
pub Contains-one : {X : Type 0} (x y : X) → Contains (y ∷ []) x → y ≡ x
Contains-one x y h = ⊎_elim (λ no. Contains-nil x no) (λ e. e) (Contains-push_cases [] y x h)

-- what has no element is empty
empty-list : {X : Type 0} (xs : List X) → ((x : X) → Contains xs x → ⊥) → xs ≡ []
empty-list [] h = refl
empty-list (x ∷ xs) h = absurd (h x (Contains-head x xs))

-- ---- names

named-by : {X : Type 0} (n : Text) (k : String Global) (v : X) (es : List (String Global × X)) (x : X) (b : Bool)
    → is_eq (slice_cmp nat_cmp n (string_bytes k)) ≡ b
    → (lookup (λ q. is_eq (slice_cmp nat_cmp n (string_bytes q))) es ≡ Some x → Contains (key_names es) n)
    → lookup (λ q. is_eq (slice_cmp nat_cmp n (string_bytes q))) ((k, v) ∷ es) ≡ Some x
    → Contains (key_names ((k, v) ∷ es)) n
named-by n k v es x true e rest h =
    subst (λ (t : Text). Contains (string_bytes k ∷ key_names es) t)
    (sym ((bytes_decides n (string_bytes k)).0 (sym (is_eq-slice_cmp n (string_bytes k)) ∙ e)))
    (Contains-head (string_bytes k) (key_names es))
named-by n k v es x false e rest h =
    Contains-after (string_bytes k) (key_names es) n (rest (subst (λ (b : Bool). cond b (Some v) (lookup (λ q. is_eq (slice_cmp nat_cmp n (string_bytes q))) es) ≡ Some x) e h))

-- a name under which something is registered is among the names
pub lookup-named : {X : Type 0} (n : Text) (es : List (String Global × X)) (x : X)
    → lookup (λ q. is_eq (slice_cmp nat_cmp n (string_bytes q))) es ≡ Some x → Contains (key_names es) n
lookup-named n [] x h = cc
lookup-named n (e ∷ es) x h =
    named-by n e.0 e.1 es x (is_eq (slice_cmp nat_cmp n (string_bytes e.0))) refl (lookup-named n es x) h

-- ---- name by name

module _ (r : Registrations) (template : Text → Option Tree) where
  -- a tree under a name, with a fault of it
  pub record HasFault (f : Fault) : Type 0 where
    pub name : Text
    pub tree : Tree
    pub is_tree : template name ≡ Some tree
    pub has : Contains (faults_of_tree r (Some name) tree) f

  under-by : (n : Text) (f : Fault) (o : Option Tree) → template n ≡ o
      → Contains (with_or o (faults_of_tree r (Some n)) []) f → HasFault f
  under-by n f None e h = Contains-nil f h
  under-by n f (Some t) e h = record { name = n; tree = t; is_tree = e; has = h }

  pub faults_under_all-only : (ns : List Text) (f : Fault) → Contains (faults_under_all r template ns) f → HasFault f
  faults_under_all-only [] f h = Contains-nil f h
  faults_under_all-only (n ∷ ns) f h =
      ⊎_elim (under-by n f (template n) refl) (faults_under_all-only ns f)
      (Contains-append_cases (faults_under r template n) (faults_under_all r template ns) f h)

  under-named : (n : Text) (t : Tree) (f : Fault) → template n ≡ Some t → Contains (faults_of_tree r (Some n) t) f
      → Contains (faults_under r template n) f
  under-named n t f e h = subst (λ (o : Option Tree). Contains (with_or o (faults_of_tree r (Some n)) []) f) (sym e) h

  pub faults_under_all-named : (ns : List Text) (n : Text) (t : Tree) (f : Fault) → template n ≡ Some t
      → Contains (faults_of_tree r (Some n) t) f → Contains ns n → Contains (faults_under_all r template ns) f
  faults_under_all-named [] n t f e h c = Contains-nil n c
  faults_under_all-named (m ∷ ns) n t f e h c =
      ⊎_elim
      (λ here. Contains-append_left (faults_under r template m) (faults_under_all r template ns) f
      (subst (λ (k : Text). Contains (faults_under r template k) f) (sym (Contains-one n m here)) (under-named n t f e h)))
      (λ there. Contains-append_right (faults_under r template m) (faults_under_all r template ns) f
      (faults_under_all-named ns n t f e h there))
      (Contains-append_cases (m ∷ []) ns n c)

-- ---- all that is registered

-- a name that isn't read, among the names
unread-by : (read : Text → Option Tree) (n m : Text) (ns : List Text) (b : Bool) → not (is_some (read m)) ≡ b
    → Contains (m ∷ ns) n → not (is_some (read n)) ≡ true
    → (Contains ns n → Contains (unread read ns) n) → Contains (cond b (m ∷ unread read ns) (unread read ns)) n
unread-by read n m ns true e c none rest =
    ⊎_elim (λ here. subst (λ (k : Text). Contains (m ∷ unread read ns) k) (Contains-one n m here) (Contains-head m (unread read ns)))
    (λ there. Contains-after m (unread read ns) n (rest there)) (Contains-append_cases (m ∷ []) ns n c)
unread-by read n m ns false e c none rest =
    ⊎_elim
    (λ here. absurd (false≢true (sym e ∙ ap (λ (k : Text). not (is_some (read k))) (Contains-one n m here) ∙ none)))
    rest (Contains-append_cases (m ∷ []) ns n c)

unread-has : (read : Text → Option Tree) (n : Text) (ns : List Text) → not (is_some (read n)) ≡ true → Contains ns n
    → Contains (unread read ns) n
unread-has read n [] none c = Contains-nil n c
unread-has read n (m ∷ ns) none c =
    unread-by read n m ns (not (is_some (read m))) refl c none (unread-has read n ns none)

-- under a name of one map overlaid on another there is what the first has, or else what the second has
module _ (above below : List (String Global × Template)) where
  abbrev pub found_among : List (String Global × Template) → Text → Option Tree
  found_among es n = option_map tree_view (lookup (λ q. is_eq (slice_cmp nat_cmp n (string_bytes q))) es)

  abbrev pub found_in_both : Text → Option Tree
  found_in_both n = overlaid_on (found_among above) (found_among below) n

  named-by-both : (n : Text) (t : Tree) (o p : Option Template)
      → lookup (λ q. is_eq (slice_cmp nat_cmp n (string_bytes q))) above ≡ o
      → lookup (λ q. is_eq (slice_cmp nat_cmp n (string_bytes q))) below ≡ p
      → option_or (option_map tree_view o) (option_map tree_view p) ≡ Some t
      → Contains (key_names above) n ⊎ Contains (unread (found_among above) (key_names below)) n
  named-by-both n t (Some x) p e f h = inl (lookup-named n above x e)
  named-by-both n t None (Some y) e f h =
      inr (unread-has (found_among above) n (key_names below) (ap (λ o. not (is_some (option_map tree_view o))) e) (lookup-named n below y f))
  named-by-both n t None None e f h = cc

  pub named-both : (n : Text) (t : Tree) → found_in_both n ≡ Some t
      → Contains (key_names above) n ⊎ Contains (unread (found_among above) (key_names below)) n
  named-both n t h = named-by-both n t _ _ refl refl h

module _ (p : Parts) where
  of_fault : {begins : Beginning → Type 0} {f : Fault} → HasFault (registrations p) p.template f → IsFaultOf p begins f
  of_fault h = of_stored h.is_tree h.has

  reports-all : (ns ms : List Text)
      → ((n : Text) (t : Tree) → p.template n ≡ Some t → Contains ns n ⊎ Contains ms n)
      → (f : Fault) → IsFaultOf p NoSource f → Contains (faults_of_parts (registrations p)
      ++ (faults_under_all (registrations p) p.template ns ++ faults_under_all (registrations p) p.template ms)) f
  reports-all ns ms named f (of_parts h) = Contains-append_left (faults_of_parts (registrations p)) _ f h
  reports-all ns ms named f (of_source b h) = absurd b
  reports-all ns ms named f (of_stored {n = n} {t = t} e h) =
      let r = registrations p in
      let first = faults_under_all r p.template ns in
      let second = faults_under_all r p.template ms in
      Contains-append_right (faults_of_parts r) (first ++ second) f
      (⊎_elim
      (λ c. Contains-append_left first second f (faults_under_all-named r p.template ns n t f e h c))
      (λ c. Contains-append_right first second f (faults_under_all-named r p.template ms n t f e h c))
      (named n t e))

  -- what is registered under two lists of names that have all
  pub reports-registered : (ns ms : List Text)
      → ((n : Text) (t : Tree) → p.template n ≡ Some t → Contains ns n ⊎ Contains ms n)
      → ReportsFaults p NoSource (faults_of_parts (registrations p)
      ++ (faults_under_all (registrations p) p.template ns ++ faults_under_all (registrations p) p.template ms))
  reports-registered ns ms named =
      let r = registrations p in
      let first = faults_under_all r p.template ns in
      let second = faults_under_all r p.template ms in
      record {
        only = λ f h. ⊎_elim (λ x. of_parts x)
            (λ x. ⊎_elim
            (λ y. of_fault (faults_under_all-only r p.template ns f y))
            (λ y. of_fault (faults_under_all-only r p.template ms f y))
            (Contains-append_cases first second f x))
            (Contains-append_cases (faults_of_parts r) (first ++ second) f h);
        all = λ f h. reports-all ns ms named f h;
      }

  of_any : (begins : Beginning → Type 0) (f : Fault) → IsFaultOf p NoSource f → IsFaultOf p begins f
  of_any begins f (of_parts x) = of_parts x
  of_any begins f (of_source x y) = absurd x
  of_any begins f (of_stored x y) = of_stored x y

  source-all : (begins : Beginning → Type 0) (t : Tree) (fs : List Fault) → ((u : Tree) → begins (a_tree u) → u ≡ t)
      → ReportsFaults p NoSource fs → (f : Fault) → IsFaultOf p begins f
      → Contains (faults_of_tree (registrations p) None t ++ fs) f
  source-all begins t fs one h f (of_parts x) =
      Contains-append_right (faults_of_tree (registrations p) None t) fs f (h.all f (of_parts x))
  source-all begins t fs one h f (of_source {t = u} x y) =
      Contains-append_left (faults_of_tree (registrations p) None t) fs f
      (subst (λ (z : Tree). Contains (faults_of_tree (registrations p) None z) f) (one u x) y)
  source-all begins t fs one h f (of_stored x y) =
      Contains-append_right (faults_of_tree (registrations p) None t) fs f (h.all f (of_stored x y))

  -- the one tree that a rendering begins with, before what is registered
  pub reports-source : (begins : Beginning → Type 0) (t : Tree) (fs : List Fault) → begins (a_tree t)
      → ((u : Tree) → begins (a_tree u) → u ≡ t) → ReportsFaults p NoSource fs
      → ReportsFaults p begins (faults_of_tree (registrations p) None t ++ fs)
  reports-source begins t fs b one h = record {
    only = λ f c. ⊎_elim (λ x. of_source b x) (λ x. of_any begins f (h.only f x))
        (Contains-append_cases (faults_of_tree (registrations p) None t) fs f c);
    all = source-all begins t fs one h;
  }

  -- if nothing is reported, everything is blind
  pub blind-unreported : (begins : Beginning → Type 0) → ReportsFaults p begins [] → IsAllBlind p begins
  blind-unreported begins h = record {
    registered = record {
      parts = (decide_parts (registrations p)).0 (empty-list _ (λ f c. Contains-nil f (h.all f (of_parts c))));
      stored = λ n t e. (decide_trees (registrations p) (Some n) t).0 (empty-list _ (λ f c. Contains-nil f (h.all f (of_stored e c))));
    };
    source = λ t b. (decide_trees (registrations p) None t).0 (empty-list _ (λ f c. Contains-nil f (h.all f (of_source b c))));
  }

-- the same trees under names
module _ (p : Parts) (begins : Beginning → Type 0) where
  fault-same : (above below : Text → Option Tree) → ((n : Text) → above n ≡ below n) → (f : Fault)
      → IsFaultOf (record p { template = above }) begins f → IsFaultOf (record p { template = below }) begins f
  fault-same above below same f (of_parts x) = of_parts x
  fault-same above below same f (of_source x y) = of_source x y
  fault-same above below same f (of_stored {n = n} x y) = of_stored (sym (same n) ∙ x) y

  pub reports-same : (above below : Text → Option Tree) (fs : List Fault) → ((n : Text) → above n ≡ below n)
      → ReportsFaults (record p { template = above }) begins fs → ReportsFaults (record p { template = below }) begins fs
  reports-same above below fs same h = record {
    only = λ f c. fault-same above below same f (h.only f c);
    all = λ f c. h.all f (fault-same below above (λ n. sym (same n)) f c);
  }
