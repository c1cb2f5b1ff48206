-- Equal values are the same value, apart from numbers outside the range.
use Rattle.std.proofs.Common.{◌≡◌, ℤ, pos, negsuc, Bool, true, false, ◌&&◌, Option, Some, None, refl, sym, ap, ap₂, ◌∙◌}
use Rattle.std.proofs.lemmas.Bool.{false≢true}
use Rattle.std.proofs.lemmas.Bool.Decides.{Decides-int_eq}
use Rattle.std.proofs.lemmas.Slice.Eq.{bytes_eq-Decides}
use Rattle.std.specs.Ordering.{int_eq}
use Rattle.serde_json.specs.Data.{unsigned, negative, float, Data, null, boolean, number, string, array, object, Items, no_items, item, Members, no_members, member}
use Rattle.serde_json.specs.Find.{as_integer, of_integer}
use Rattle.handlebars_base.specs.Optional.{with_or}
use Rattle.handlebars_base.specs.Equal.{is_null, same_boolean, integer_in, number_equals, equals, items_equal, members_equal}
use Rattle.handlebars_base.specs.ComparisonLaws.{in_range, items_in_range, members_in_range, EqualIsSame, EqualIsReflexive, EqualIsSymmetric, EqualIsTransitive}

-- ---- tests

and_is : (a b : Bool) → a && b ≡ true → (a ≡ true) × (b ≡ true)
and_is true b e = (refl, e)
and_is false b e = absurd (false≢true e)

is_and : (a b : Bool) → a ≡ true → b ≡ true → a && b ≡ true
is_and true b p q = q
is_and false b p q = p

same_boolean-is : (a b : Bool) → same_boolean a b ≡ true → a ≡ b
same_boolean-is true true e = refl
same_boolean-is true false e = absurd (false≢true e)
same_boolean-is false true e = absurd (false≢true e)
same_boolean-is false false e = refl

is_same_boolean : (a b : Bool) → a ≡ b → same_boolean a b ≡ true
is_same_boolean true true e = refl
is_same_boolean true false e = sym e
is_same_boolean false true e = e
is_same_boolean false false e = refl

int_eq-is : (x y : ℤ) → int_eq x y ≡ true → x ≡ y
int_eq-is x y = (Decides-int_eq x y).0

int_eq-itself : (x : ℤ) → int_eq x x ≡ true
int_eq-itself x = (Decides-int_eq x x).1 refl

-- ---- null and numbers

is_null-range : (e : Data) → is_null e ≡ true → null ≡ in_range e
is_null-range null e = refl
is_null-range (number (unsigned n)) e = absurd (false≢true e)
is_null-range (number (negative z)) e = absurd (false≢true e)
is_null-range (number (float x)) e = refl
is_null-range _ e = absurd (false≢true e)

range-is_null : (e : Data) → null ≡ in_range e → is_null e ≡ true
range-is_null null h = refl
range-is_null (boolean b) h = cc
range-is_null (number (unsigned n)) h = cc
range-is_null (number (negative z)) h = cc
range-is_null (number (float x)) h = refl
range-is_null (string s) h = cc
range-is_null (array ds) h = cc
range-is_null (object ms) h = cc

-- what replaces a number: the number itself if it is in the range, otherwise null
abbrev number_or_null : Option ℤ → Data
number_or_null o = with_or o (λ z. number (of_integer z)) null

integer_in-of_integer : (z : ℤ) → integer_in (number (of_integer z)) ≡ Some z
integer_in-of_integer (pos n) = refl
integer_in-of_integer (negsuc n) = refl

integer_or : ℤ → Option ℤ → ℤ
integer_or d None = d
integer_or d (Some z) = z

of_integer-one : (x y : ℤ) → number (of_integer x) ≡ number (of_integer y) → x ≡ y
unfolding integer_or
of_integer-one x y e = ap (integer_or x) (sym (integer_in-of_integer x) ∙ ap integer_in e ∙ integer_in-of_integer y)

number_equals-range : (o : Option ℤ) (e : Data) → number_equals o e ≡ true → number_or_null o ≡ in_range e
number_equals-range None e h = is_null-range e h
number_equals-range (Some x) (number (unsigned n)) h = ap (λ y. number (of_integer y)) (int_eq-is x (pos n) h)
number_equals-range (Some x) (number (negative z)) h = ap (λ y. number (of_integer y)) (int_eq-is x z h)
number_equals-range (Some x) (number (float f)) h = absurd (false≢true h)
number_equals-range (Some x) _ h = absurd (false≢true h)

range-number_equals : (o : Option ℤ) (e : Data) → number_or_null o ≡ in_range e → number_equals o e ≡ true
range-number_equals None e h = range-is_null e h
range-number_equals (Some x) null h = cc
range-number_equals (Some x) (boolean b) h = cc
range-number_equals (Some x) (number (unsigned n)) h = ap (int_eq x) (sym (of_integer-one x (pos n) h)) ∙ int_eq-itself x
range-number_equals (Some x) (number (negative z)) h = ap (int_eq x) (sym (of_integer-one x z h)) ∙ int_eq-itself x
range-number_equals (Some x) (number (float f)) h = cc
range-number_equals (Some x) (string s) h = cc
range-number_equals (Some x) (array ds) h = cc
range-number_equals (Some x) (object ms) h = cc

-- ---- equal values are the same in the range

mutual
  equals-range : (d e : Data) → equals d e ≡ true → in_range d ≡ in_range e
  equals-range null e h = is_null-range e h
  equals-range (boolean b) (boolean c) h = ap boolean (same_boolean-is b c h)
  equals-range (boolean b) _ h = absurd (false≢true h)
  equals-range (number n) e h = number_equals-range (as_integer n) e h
  equals-range (string s) (string t) h = ap string ((bytes_eq-Decides s t).0 h)
  equals-range (string s) _ h = absurd (false≢true h)
  equals-range (array ds) (array es) h = ap array (items_equal-range ds es h)
  equals-range (array ds) _ h = absurd (false≢true h)
  equals-range (object ms) (object ns) h = ap object (members_equal-range ms ns h)
  equals-range (object ms) _ h = absurd (false≢true h)

  items_equal-range : (ds es : Items) → items_equal ds es ≡ true → items_in_range ds ≡ items_in_range es
  items_equal-range no_items no_items h = refl
  items_equal-range no_items (item e es) h = absurd (false≢true h)
  items_equal-range (item d ds) no_items h = absurd (false≢true h)
  items_equal-range (item d ds) (item e es) h =
      let parts = and_is _ _ h in
      ap₂ item (equals-range d e parts.0) (items_equal-range ds es parts.1)

  members_equal-range : (ms ns : Members) → members_equal ms ns ≡ true → members_in_range ms ≡ members_in_range ns
  members_equal-range no_members no_members h = refl
  members_equal-range no_members (member l e ns) h = absurd (false≢true h)
  members_equal-range (member k d ms) no_members h = absurd (false≢true h)
  members_equal-range (member k d ms) (member l e ns) h =
      let keys = and_is _ _ h in
      let values = and_is _ _ keys.1 in
      let key : k ≡ l = (bytes_eq-Decides k l).0 keys.0 in
      let first = equals-range d e values.0 in
      let rest = members_equal-range ms ns values.1 in
      cc

-- ---- values that are the same in the range are equal

mutual
  range-equals : (d e : Data) → in_range d ≡ in_range e → equals d e ≡ true
  range-equals null e h = range-is_null e h
  range-equals (boolean b) (boolean c) h = is_same_boolean b c cc
  range-equals (boolean b) (number (unsigned n)) h = cc
  range-equals (boolean b) (number (negative z)) h = cc
  range-equals (boolean b) (number (float x)) h = cc
  range-equals (boolean b) _ h = cc
  range-equals (number n) e h = range-number_equals (as_integer n) e h
  range-equals (string s) (string t) h = (bytes_eq-Decides s t).1 cc
  range-equals (string s) (number (unsigned n)) h = cc
  range-equals (string s) (number (negative z)) h = cc
  range-equals (string s) (number (float x)) h = cc
  range-equals (string s) _ h = cc
  range-equals (array ds) (array es) h = range-items_equal ds es cc
  range-equals (array ds) (number (unsigned n)) h = cc
  range-equals (array ds) (number (negative z)) h = cc
  range-equals (array ds) (number (float x)) h = cc
  range-equals (array ds) _ h = cc
  range-equals (object ms) (object ns) h = range-members_equal ms ns cc
  range-equals (object ms) (number (unsigned n)) h = cc
  range-equals (object ms) (number (negative z)) h = cc
  range-equals (object ms) (number (float x)) h = cc
  range-equals (object ms) _ h = cc

  range-items_equal : (ds es : Items) → items_in_range ds ≡ items_in_range es → items_equal ds es ≡ true
  range-items_equal no_items no_items h = refl
  range-items_equal no_items (item e es) h = cc
  range-items_equal (item d ds) no_items h = cc
  range-items_equal (item d ds) (item e es) h =
      let first : in_range d ≡ in_range e = cc in
      let rest : items_in_range ds ≡ items_in_range es = cc in
      is_and _ _ (range-equals d e first) (range-items_equal ds es rest)

  range-members_equal : (ms ns : Members) → members_in_range ms ≡ members_in_range ns → members_equal ms ns ≡ true
  range-members_equal no_members no_members h = refl
  range-members_equal no_members (member l e ns) h = cc
  range-members_equal (member k d ms) no_members h = cc
  range-members_equal (member k d ms) (member l e ns) h =
      let key : k ≡ l = cc in
      let first : in_range d ≡ in_range e = cc in
      let rest : members_in_range ms ≡ members_in_range ns = cc in
      is_and _ _ ((bytes_eq-Decides k l).1 key) (is_and _ _ (range-equals d e first) (range-members_equal ms ns rest))

-- ---- the laws

pub equal_is_same : EqualIsSame
equal_is_same d e = (equals-range d e, range-equals d e)

pub equal_is_reflexive : EqualIsReflexive
equal_is_reflexive d = range-equals d d refl

pub equal_is_symmetric : EqualIsSymmetric
equal_is_symmetric d e h = range-equals e d (sym (equals-range d e h))

pub equal_is_transitive : EqualIsTransitive
equal_is_transitive d e f h k = range-equals d f (equals-range d e h ∙ equals-range e f k)
