-- What is read of values that are equal up to texts is equal up to texts.
use Rattle.std.proofs.Common.{◌≡◌, ℕ, zero, suc, Bool, true, false, List, [], ◌∷◌, Option, None, Some, option_map, unwrap_or, cond, if◌then◌else◌, not, length, refl, ap, sym, ◌∙◌, subst}
use Rattle.std.proofs.Math.Dec.{eqb-suc-zero}
use Rattle.std.specs.List.{slice_get}
use Rattle.std.specs.Ordering.{match_ordering, nat_cmp}
use Rattle.std.specs.Cmp.Lexicographic.{slice_cmp}
use Rattle.std.specs.declared.cmp.Ordering.{Ordering}
use Rattle.std.specs.declared.cmp.Ordering.TheVariants.{Less, Equal, Greater}
use Rattle.serde_json.specs.Data.{Data, null, boolean, number, string, array, object, Items, no_items, item, Members, no_members, member}
use Rattle.serde_json.specs.Find.{get_item, get_member}
use Rattle.handlebars_base.specs.Answers.{Answer, gives, fails, answer_map}
use Rattle.handlebars_base.specs.Bytes.{Text}
use Rattle.handlebars_base.specs.Optional.{with_or}
use Rattle.handlebars_base.specs.Scoped.{Found, walked, value, missing, data_in}
use Rattle.handlebars_base.specs.Values.{truth, truth_of_number}
use Rattle.handlebars_scope.specs.Resolve.{index_of, item_at, member_at, then_at, value_at, or_else}
use Rattle.handlebars_markup.specs.Alike.{AreAlikeTexts, AreAlike, AreAlikeItems, AreAlikeMembers}
use Rattle.handlebars_markup.proofs.Alikeness.{AreAlikeOptions, AreAlikeLists, AreAlikeAnswers, AreAlikeFound}

-- ---- a value is equal to itself up to texts

AreAlikeTexts-self : (t : Text) → AreAlikeTexts t t
AreAlikeTexts-self [] = tt
AreAlikeTexts-self (b ∷ t) = tt

mutual
  pub AreAlike-self : (d : Data) → AreAlike d d
  AreAlike-self null = tt
  AreAlike-self (boolean b) = refl
  AreAlike-self (number n) = refl
  AreAlike-self (string s) = AreAlikeTexts-self s
  AreAlike-self (array ds) = AreAlikeItems-self ds
  AreAlike-self (object ms) = AreAlikeMembers-self ms

  AreAlikeItems-self : (ds : Items) → AreAlikeItems ds ds
  AreAlikeItems-self no_items = tt
  AreAlikeItems-self (item d ds) = (AreAlike-self d, AreAlikeItems-self ds)

  AreAlikeMembers-self : (ms : Members) → AreAlikeMembers ms ms
  AreAlikeMembers-self no_members = tt
  AreAlikeMembers-self (member k d ms) = (refl, AreAlike-self d, AreAlikeMembers-self ms)

-- ---- options, choices by a test, lists and answers

module _ {A B : Type 0} (R : A → B → Type 0) where
  pub or_else-alike : (o : Option A) (q : Option B) (x : Option A) (y : Option B) → AreAlikeOptions R o q
      → AreAlikeOptions R x y → AreAlikeOptions R (or_else o x) (or_else q y)
  or_else-alike None None x y h k = k
  or_else-alike (Some a) (Some b) x y h k = h
  or_else-alike o q x y h k = absurd h

  pub unwrap_or-alike : (o : Option A) (q : Option B) (x : A) (y : B) → AreAlikeOptions R o q → R x y
      → R (unwrap_or o x) (unwrap_or q y)
  unwrap_or-alike None None x y h k = k
  unwrap_or-alike (Some a) (Some b) x y h k = h
  unwrap_or-alike o q x y h k = absurd h

  pub if-alike : (b : Bool) (x x' : A) (y y' : B) → R x y → R x' y' → R (if b then x else x') (if b then y else y')
  if-alike true x x' y y' h k = h
  if-alike false x x' y y' h k = k

  pub cond-alike : (b : Bool) (x x' : A) (y y' : B) → R x y → R x' y' → R (cond b x x') (cond b y y')
  cond-alike true x x' y y' h k = h
  cond-alike false x x' y y' h k = k

  pub slice_get-alike : (xs : List A) (ys : List B) (i : ℕ) → AreAlikeLists R xs ys
      → AreAlikeOptions R (slice_get xs i) (slice_get ys i)
  slice_get-alike [] [] i h = tt
  slice_get-alike (x ∷ xs) (y ∷ ys) zero h = h.0
  slice_get-alike (x ∷ xs) (y ∷ ys) (suc i) h = slice_get-alike xs ys i h.1
  slice_get-alike xs ys i h = absurd h

module _ {A B C D : Type 0} (R : A → B → Type 0) (S : C → D → Type 0) where
  pub option_map-alike : (o : Option A) (q : Option B) (f : A → C) (g : B → D) → AreAlikeOptions R o q
      → ((x : A) (y : B) → R x y → S (f x) (g y)) → AreAlikeOptions S (option_map f o) (option_map g q)
  option_map-alike None None f g h k = tt
  option_map-alike (Some x) (Some y) f g h k = k x y h
  option_map-alike o q f g h k = absurd h

  pub with_or-alike : (o : Option A) (q : Option B) (f : A → C) (g : B → D) (x : C) (y : D) → AreAlikeOptions R o q
      → ((a : A) (b : B) → R a b → S (f a) (g b)) → S x y → S (with_or o f x) (with_or q g y)
  with_or-alike None None f g x y h k z = z
  with_or-alike (Some a) (Some b) f g x y h k z = k a b h
  with_or-alike o q f g x y h k z = absurd h

  pub answer_map-alike : (a : Answer A) (b : Answer B) (f : A → C) (g : B → D) → AreAlikeAnswers R a b
      → ((x : A) (y : B) → R x y → S (f x) (g y)) → AreAlikeAnswers S (answer_map f a) (answer_map g b)
  answer_map-alike (gives x) (gives y) f g h k = k x y h
  answer_map-alike (fails r) (fails q) f g h k = h
  answer_map-alike a b f g h k = absurd h

-- ---- truth

pub truth-alike : (zero_counts : Bool) (d e : Data) → AreAlike d e → truth zero_counts d ≡ truth zero_counts e
truth-alike z null null h = refl
truth-alike z (boolean b) (boolean c) h = h
truth-alike z (number n) (number m) h = ap (truth_of_number z) h
truth-alike z (string []) (string []) h = refl
truth-alike z (string (b ∷ s)) (string (c ∷ t)) h = ap not (eqb-suc-zero (length s) ∙ sym (eqb-suc-zero (length t)))
truth-alike z (array no_items) (array no_items) h = refl
truth-alike z (array (item d ds)) (array (item e es)) h = refl
truth-alike z (object no_members) (object no_members) h = refl
truth-alike z (object (member k d ms)) (object (member l e ns)) h = refl
truth-alike z d e h = absurd h

pub data_in-alike : (v w : Found) → AreAlikeFound v w → AreAlike (data_in v) (data_in w)
data_in-alike (walked d ns) (walked e ms) h = h.0
data_in-alike (value d) (value e) h = h
data_in-alike missing missing h = tt
data_in-alike v w h = absurd h

-- ---- along names

get_item-alike : (i : ℕ) (ds es : Items) → AreAlikeItems ds es → AreAlikeOptions AreAlike (get_item i ds) (get_item i es)
get_item-alike i no_items no_items h = tt
get_item-alike zero (item d ds) (item e es) h = h.0
get_item-alike (suc i) (item d ds) (item e es) h = get_item-alike i ds es h.1
get_item-alike i ds es h = absurd h

match_ordering-alike : (o : Ordering) (x y : Option Data) (d e : Data) → AreAlikeOptions AreAlike x y → AreAlike d e
    → AreAlikeOptions AreAlike (match_ordering o x (Some d) x) (match_ordering o y (Some e) y)
match_ordering-alike Less x y d e h k = h
match_ordering-alike Equal x y d e h k = k
match_ordering-alike Greater x y d e h k = h

get_member-alike : (name : Text) (ms ns : Members) → AreAlikeMembers ms ns
    → AreAlikeOptions AreAlike (get_member name ms) (get_member name ns)
get_member-alike name no_members no_members h = tt
get_member-alike name (member k d ms) (member l e ns) h =
    let here = get_member name ms in
    let there = get_member name ns in
    subst (λ (z : Text). AreAlikeOptions AreAlike (match_ordering (slice_cmp nat_cmp name k) here (Some d) here)
    (match_ordering (slice_cmp nat_cmp name z) there (Some e) there)) h.0
    (match_ordering-alike (slice_cmp nat_cmp name k) here there d e (get_member-alike name ms ns h.2) h.1)
get_member-alike name ms ns h = absurd h

item_at-alike : (ds es : Items) (name : Text) (o : Option ℕ) → AreAlikeItems ds es
    → AreAlikeAnswers (AreAlikeOptions AreAlike) (item_at ds name o) (item_at es name o)
item_at-alike ds es name None h = refl
item_at-alike ds es name (Some i) h = get_item-alike i ds es h

pub member_at-alike : (d e : Data) (name : Text) → AreAlike d e
    → AreAlikeAnswers (AreAlikeOptions AreAlike) (member_at d name) (member_at e name)
member_at-alike null null name h = tt
member_at-alike (boolean b) (boolean c) name h = tt
member_at-alike (number n) (number m) name h = tt
member_at-alike (string s) (string t) name h = tt
member_at-alike (array ds) (array es) name h = item_at-alike ds es name (index_of name) h
member_at-alike (object ms) (object ns) name h = get_member-alike name ms ns h
member_at-alike d e name h = absurd h

then_at-alike : (a b : Answer (Option Data)) (f g : Data → Answer (Option Data))
    → AreAlikeAnswers (AreAlikeOptions AreAlike) a b
    → ((d e : Data) → AreAlike d e → AreAlikeAnswers (AreAlikeOptions AreAlike) (f d) (g e))
    → AreAlikeAnswers (AreAlikeOptions AreAlike) (then_at a f) (then_at b g)
then_at-alike (gives (Some d)) (gives (Some e)) f g h k = k d e h
then_at-alike (gives None) (gives None) f g h k = tt
then_at-alike (fails r) (fails q) f g h k = h
then_at-alike a b f g h k = absurd h

pub value_at-alike : (names : List Text) (d e : Data) → AreAlike d e
    → AreAlikeAnswers (AreAlikeOptions AreAlike) (value_at d names) (value_at e names)
value_at-alike [] d e h = h
value_at-alike (n ∷ ns) d e h =
    then_at-alike (member_at d n) (member_at e n) (λ x. value_at x ns) (λ y. value_at y ns) (member_at-alike d e n h)
    (λ x y k. value_at-alike ns x y k)
