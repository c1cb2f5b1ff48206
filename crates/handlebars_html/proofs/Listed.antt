-- What is registered otherwise than at the start, listed name by name.
use Rattle.std.proofs.Common.{◌≡◌, ℕ, ◌+◌, ◌<◌, ◌≤◌, Bool, true, false, ◌||◌, cond, if◌then◌else◌, List, [], ◌∷◌, ◌++◌, map, length, get_or, drop, Option, Some, None, is_some, option_map, String, Global, string_bytes, bytes_eq, refl, sym, ap, ◌∙◌, subst, add-one, codes}
use Rattle.std.proofs.Math.ListN.{drop_of_length-le}
use Rattle.std.proofs.Math.Seq.{drop-cons}
use Rattle.std.proofs.lemmas.Cmp.{nat_list_eq_equiv}
use Rattle.std.proofs.lemmas.List.{length-map}
use Rattle.std.proofs.lemmas.List.Folds.{list_any-append}
use Rattle.std.proofs.lemmas.Map.Text.{btree_set_updates_text, is_eq-slice_cmp}
use Rattle.std.specs.Cmp.Lexicographic.{slice_cmp}
use Rattle.std.specs.Ordering.{is_eq, nat_cmp}
use Rattle.std.specs.BTreeSet.{BTreeSet, UpdatesBy, contains_text}
use Rattle.std.specs.List.{AllByRecursion, list_any}
use Rattle.std.specs.Map.{lookup}
use Rattle.std.specs.String.{string_cmp}
use Rattle.handlebars_base.specs.Bytes.{Text}
use Rattle.handlebars_base.specs.Optional.{with_or}
use Rattle.handlebars_helpers.specs.Callee.{Callee, built, first_callee}
use Rattle.handlebars_helpers.specs.Choice.{BuiltInKind, built_in, built_ins}
use Rattle.handlebars_helpers.specs.Decoration.{DecoratorKind, kind_inline, built_in_decorator}
use Rattle.handlebars_helpers.specs.UserHelper.{UserHelper}
use Rattle.handlebars_html.specs.Ascii.{is_one_of}
use Rattle.handlebars_html.specs.Registry.{OtherKind, HoldsIf, IsOther, IsOtherOrFirst, AddsHelper, ListsHelpers, AddsDecorator, ListsDecorators}
use Rattle.handlebars_html.proofs.CleanFindings.{text-is}
use Rattle.handlebars_html.proofs.StateLists.{true-false, All-append}

or-false : (x y : Bool) → (x || y) ≡ false → (x ≡ false) × (y ≡ false)
or-false true y is = cc
or-false false y is = (refl, is)

-- ---- names, one after another

module _ {A : Type 0} (name : A → Text) (Same : Text → Type 0) where
  abbrev pub is_listed : List A → Text → Bool
  is_listed xs n = list_any (λ x. bytes_eq (name x) n) xs

  -- What is neither listed nor left is the same as at the start.
  abbrev pub Covers : List A → List Text → List Text → Type 0
  Covers xs rest all =
      (n : Text) → is_listed xs n ≡ false → is_one_of rest n ≡ false → is_one_of all n ≡ true → Same n

  pub covers-same : (xs : List A) (m : Text) (rest all : List Text) → Same m → Covers xs (m ∷ rest) all → Covers xs rest all
  covers-same xs m rest all same covers n unlisted past there =
      by (bytes_eq m n) (text-is m n) (λ other. covers n unlisted other there)
    where
      by : (b : Bool) → (b ≡ true → m ≡ n) → ((b || is_one_of rest n) ≡ false → Same n) → Same n
      by true to later = subst Same (to refl) same
      by false to later = later past

  pub covers-listed : (xs : List A) (x : A) (m : Text) (rest all : List Text) → name x ≡ m → Covers xs (m ∷ rest) all
      → Covers (xs ++ x ∷ []) rest all
  covers-listed xs x m rest all is covers n unlisted past there =
      let both = or-false (is_listed xs n) (bytes_eq (name x) n || false)
      (sym (list_any-append (λ y. bytes_eq (name y) n) xs (x ∷ [])) ∙ unlisted) in
      covers n both.0 (neither (bytes_eq m n) (is_one_of rest n)
      (sym (ap (λ (z : Text). bytes_eq z n) is) ∙ (or-false (bytes_eq (name x) n) false both.1).0) past) there
    where
      neither : (a b : Bool) → a ≡ false → b ≡ false → (a || b) ≡ false
      neither true b first second = cc
      neither false b first second = second

none-of : {A : Type 0} (o : Option A) → is_some o ≡ false → o ≡ None
none-of None is = refl
none-of (Some x) is = cc

true-or-false : {X : Type 0} (b : Bool) → (b ≡ true → X) → (b ≡ false → X) → X
true-or-false true one other = one refl
true-or-false false one other = other refl

-- ---- the names of a set

keys-one_of : (ks : List (String Global)) (n : Text)
    → list_any (λ k. is_eq (slice_cmp nat_cmp n (string_bytes k))) ks ≡ is_one_of (map string_bytes ks) n
keys-one_of [] n = refl
keys-one_of (k ∷ ks) n =
    ap (λ (b : Bool). b || list_any (λ k. is_eq (slice_cmp nat_cmp n (string_bytes k))) ks)
    (is_eq-slice_cmp n (string_bytes k) ∙ nat_list_eq_equiv.symm n (string_bytes k))
    ∙ ap (λ (b : Bool). bytes_eq (string_bytes k) n || b) (keys-one_of ks n)

pub contains_text-one_of : (s : BTreeSet (String Global)) (n : Text)
    → contains_text s n ≡ is_one_of (map string_bytes s.keys) n
contains_text-one_of s n = keys-one_of s.keys n

-- ---- helpers

module _ (helper : Text → Option Callee) (users : Text → UserHelper) where
  abbrev SameHelper : Text → Type 0
  SameHelper n = helper n ≡ first_callee n

  -- what is listed while some names are left
  pub record HelpersSoFar (xs : List (Text × OtherKind)) (rest all : List Text) : Type 0 where
    pub listed : AllByRecursion (λ (x : Text × OtherKind). IsOther helper users x.0 x.1) xs
    pub covers : Covers (λ (x : Text × OtherKind). x.0) SameHelper xs rest all

  pub helpers-start : (all : List Text) → HelpersSoFar [] all all
  helpers-start all = record { listed = tt; covers = λ n unlisted past there. absurd (true-false (sym there ∙ past)) }

  pub helpers-go : (xs ys : List (Text × OtherKind)) (m : Text) (rest all : List Text) → AddsHelper helper users m xs ys
      → HelpersSoFar xs (m ∷ rest) all → HelpersSoFar ys rest all
  helpers-go xs ys m rest all adds so_far =
      subst (λ (zs : List (Text × OtherKind)). HelpersSoFar zs rest all) (sym adds.2) (by adds.0 adds.1)
    where
      by : (k : Option OtherKind) → IsOtherOrFirst helper users m k
          → HelpersSoFar (with_or k (λ x. xs ++ (m, x) ∷ []) xs) rest all
      by None same = record {
        listed = so_far.listed;
        covers = covers-same (λ (x : Text × OtherKind). x.0) SameHelper xs m rest all same so_far.covers;
      }
      by (Some k) is = record {
        listed = All-append (λ (x : Text × OtherKind). IsOther helper users x.0 x.1) xs ((m, k) ∷ []) so_far.listed (is, tt);
        covers = covers-listed (λ (x : Text × OtherKind). x.0) SameHelper xs (m, k) m rest all refl so_far.covers;
      }

  pub helpers-end : (xs : List (Text × OtherKind)) (rest all : List Text) → rest ≡ [] → HelpersSoFar xs rest all
      → ((n : Text) → is_one_of all n ≡ (is_some (helper n) || is_some (built_in n))) → ListsHelpers helper users xs
  helpers-end xs rest all past so_far names = record {
    listed = so_far.listed;
    others = λ n unlisted. true-or-false (is_one_of all n)
        (λ there. so_far.covers n unlisted (ap (λ (ns : List Text). is_one_of ns n) past) there)
        (λ other. let both = or-false (is_some (helper n)) (is_some (built_in n)) (sym (names n) ∙ other) in
        none-of (helper n) both.0 ∙ sym (ap (λ (o : Option BuiltInKind). option_map (λ k. built k) o) (none-of (built_in n) both.1)));
  }

-- ---- the names of built-in helpers

-- A name that is added is taken from what is left.
added : (same turned so_far rest : Bool) → same ≡ turned → (cond same true so_far || rest) ≡ (so_far || (turned || rest))
added true turned true rest is = refl
added true turned false rest is = ap (λ (b : Bool). b || rest) is
added false turned so_far rest is = ap (λ (b : Bool). so_far || (b || rest)) is

or-none : (b : Bool) → (b || false) ≡ b
or-none true = refl
or-none false = refl

first-left : {R : Type 0} (all : List R) (i : ℕ) (d : R) → i < length all → drop i all ≡ get_or all i d ∷ drop (i + 1) all
first-left all i d within = rw (add-one) (drop-cons all i d within)

module _ {R : Type 0} (name : R → Text) where
  -- The names so far and those of the rows that are left are the names at first and those of all rows.
  abbrev pub AddsNames : BTreeSet (String Global) → BTreeSet (String Global) → List R → List R → Type 0
  AddsNames first now rest all =
      (n : Text) → (contains_text now n || list_any (λ r. bytes_eq n (name r)) rest)
      ≡ (contains_text first n || list_any (λ r. bytes_eq n (name r)) all)

  pub names-go : (first old new : BTreeSet (String Global)) (key : String Global) (i : ℕ) (d : R) (all : List R)
      → UpdatesBy string_cmp (string_cmp key) old new true → i < length all → string_bytes key ≡ name (get_or all i d)
      → AddsNames first old (drop i all) all → AddsNames first new (drop (i + 1) all) all
  names-go first old new key i d all updates within is so_far n =
      let rest = list_any (λ r. bytes_eq n (name r)) (drop (i + 1) all) in
      ap (λ (b : Bool). b || rest) (btree_set_updates_text (string_bytes key) old new true updates n)
      ∙ added (bytes_eq (string_bytes key) n) (bytes_eq n (name (get_or all i d))) (contains_text old n) rest
      (nat_list_eq_equiv.symm (string_bytes key) n ∙ ap (λ (z : Text). bytes_eq n z) is)
      ∙ sym (ap (λ (rs : List R). contains_text old n || list_any (λ r. bytes_eq n (name r)) rs) (first-left all i d within))
      ∙ so_far n

pub built_ins-rows : {R : Type 0} (f : R → Text × BuiltInKind) (rows : List R) → map f rows ≡ built_ins → length rows ≡ 17
built_ins-rows f rows are = sym (length-map rows f) ∙ ap length are

-- whether one of these rows has a name
named-lookup : {R : Type 0} (f : R → Text × BuiltInKind) (rows : List R) (n : Text)
    → list_any (λ r. bytes_eq n (f r).0) rows ≡ is_some (lookup (bytes_eq n) (map f rows))
named-lookup f [] n = refl
named-lookup f (r ∷ rows) n = by (bytes_eq n (f r).0) (named-lookup f rows n)
  where
    by : (b : Bool) → list_any (λ r. bytes_eq n (f r).0) rows ≡ is_some (lookup (bytes_eq n) (map f rows))
        → (b || list_any (λ r. bytes_eq n (f r).0) rows) ≡ is_some (cond b (Some (f r).1) (lookup (bytes_eq n) (map f rows)))
    by true later = refl
    by false later = later

pub names-end : {R : Type 0} (f : R → Text × BuiltInKind) (first now : BTreeSet (String Global)) (i : ℕ) (all : List R)
    → length all ≤ i → map f all ≡ built_ins → AddsNames (λ r. (f r).0) first now (drop i all) all
    → (n : Text) → contains_text now n ≡ (contains_text first n || is_some (built_in n))
names-end {R = R} f first now i all past are so_far n =
    sym (or-none (contains_text now n))
    ∙ sym (ap (λ (rs : List R). contains_text now n || list_any (λ r. bytes_eq n (f r).0) rs) (drop_of_length-le all past))
    ∙ so_far n
    ∙ ap (λ (b : Bool). contains_text first n || b)
    (named-lookup f all n ∙ ap (λ (rows : List (Text × BuiltInKind)). is_some (lookup (bytes_eq n) rows)) are)

-- ---- decorators

one_of-listed : (ns : List Text) (n : Text) → is_one_of ns n ≡ list_any (λ m. bytes_eq m n) ns
one_of-listed [] n = refl
one_of-listed (m ∷ ns) n = ap (λ (b : Bool). bytes_eq m n || b) (one_of-listed ns n)

module _ (kind : Text → Option DecoratorKind) where
  abbrev SameDecorator : Text → Type 0
  SameDecorator n = kind n ≡ built_in_decorator n

  -- what is listed while some names are left
  pub record DecoratorsSoFar (xs rest all : List Text) : Type 0 where
    pub listed : AllByRecursion (λ n. SameDecorator n → ⊥) xs
    pub covers : Covers (λ n. n) SameDecorator xs rest all

  pub decorators-start : (all : List Text) → DecoratorsSoFar [] all all
  decorators-start all = record { listed = tt; covers = λ n unlisted past there. absurd (true-false (sym there ∙ past)) }

  pub decorators-go : (xs ys : List Text) (m : Text) (rest all : List Text) → AddsDecorator kind m xs ys
      → DecoratorsSoFar xs (m ∷ rest) all → DecoratorsSoFar ys rest all
  decorators-go xs ys m rest all adds so_far =
      subst (λ (zs : List Text). DecoratorsSoFar zs rest all) (sym adds.2) (by adds.0 adds.1)
    where
      by : (b : Bool) → HoldsIf b (SameDecorator m) → DecoratorsSoFar (if b then xs else xs ++ m ∷ []) rest all
      by true same = record {
        listed = so_far.listed;
        covers = covers-same (λ n. n) SameDecorator xs m rest all same so_far.covers;
      }
      by false other = record {
        listed = All-append (λ n. SameDecorator n → ⊥) xs (m ∷ []) so_far.listed (other, tt);
        covers = covers-listed (λ n. n) SameDecorator xs m m rest all refl so_far.covers;
      }

  pub decorators-end : (xs rest all : List Text) → rest ≡ [] → DecoratorsSoFar xs rest all
      → ((n : Text) → is_one_of all n ≡ cond (bytes_eq (codes "inline") n) true (is_some (kind n))) → ListsDecorators kind xs
  decorators-end xs rest all past so_far names = record {
    listed = so_far.listed;
    others = λ n unlisted. true-or-false (is_one_of all n)
        (λ there. so_far.covers n (sym (one_of-listed xs n) ∙ unlisted) (ap (λ (ns : List Text). is_one_of ns n) past) there)
        (λ other. by n (bytes_eq (codes "inline") n) (nat_list_eq_equiv.symm n (codes "inline")) (sym (names n) ∙ other));
  }
    where
      by : (n : Text) (b : Bool) → bytes_eq n (codes "inline") ≡ b → cond b true (is_some (kind n)) ≡ false → SameDecorator n
      by n true is other = cc
      by n false is other =
          none-of (kind n) other
          ∙ sym (ap (λ (b : Bool). cond b (Some kind_inline) None) is)

-- ---- names in code

pub texts-left : (keys rest : List (String Global)) (k : String Global) → keys ≡ k ∷ rest
    → map string_bytes keys ≡ string_bytes k ∷ map string_bytes rest
texts-left keys rest k is = ap (λ (ks : List (String Global)). map string_bytes ks) is

pub texts-none : (keys : List (String Global)) → keys ≡ [] → map string_bytes keys ≡ []
texts-none keys is = ap (λ (ks : List (String Global)). map string_bytes ks) is

pub inline-added : (old new : BTreeSet (String Global)) (key : String Global) (kind : Text → Option DecoratorKind)
    → ((n : Text) → contains_text old n ≡ is_some (kind n)) → string_bytes key ≡ codes "inline"
    → UpdatesBy string_cmp (string_cmp key) old new true → (n : Text)
    → contains_text new n ≡ cond (bytes_eq (codes "inline") n) true (is_some (kind n))
inline-added old new key kind names is updates n =
    btree_set_updates_text (string_bytes key) old new true updates n
    ∙ ap (λ (b : Bool). cond (bytes_eq (string_bytes key) n) true b) (names n)
    ∙ ap (λ (t : Text). cond (bytes_eq t n) true (is_some (kind n))) is
