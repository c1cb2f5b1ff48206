-- When two values are equal.
use Rattle.std.specs.Prelude.{ℤ, Bool, true, false, not, ◌&&◌, if◌then◌else◌, Option, Some, None}
use Rattle.std.specs.Ordering.{int_eq}
use Rattle.std.specs.Str.{bytes_eq}
use Rattle.serde_json.specs.Data.{Data, null, boolean, number, string, array, object, Items, no_items, item, Members, no_members, member}
use Rattle.serde_json.specs.Find.{as_bool, as_number, as_str, as_array, as_object, as_integer, is_float}
use Rattle.handlebars_base.specs.Optional.{◌>>=◌, with_or}

-- null, or a number outside the range, which counts as null
abbrev pub is_null : Data → Bool
is_null null = true
is_null (boolean b) = false
is_null (number n) = is_float n
is_null (string s) = false
is_null (array ds) = false
is_null (object ms) = false

abbrev pub same_boolean : Bool → Bool → Bool
same_boolean b c = if b then c else not c

abbrev pub integer_in : Data → Option ℤ
integer_in d = as_number d >>= as_integer

-- whether a number equals a value; the number is given as its integer, if it is in the range
abbrev pub number_equals : Option ℤ → Data → Bool
number_equals None e = is_null e
number_equals (Some x) e = with_or (integer_in e) (int_eq x) false

-- Two values are equal if they are of the same kind and have equal parts. Equal objects have the same keys, which are stored
-- in order.
abbrev mutual
  pub equals : Data → Data → Bool
  equals null e = is_null e
  equals (boolean b) e = with_or (as_bool e) (same_boolean b) false
  equals (number n) e = number_equals (as_integer n) e
  equals (string s) e = with_or (as_str e) (bytes_eq s) false
  equals (array ds) e = with_or (as_array e) (λ es. items_equal ds es) false
  equals (object ms) e = with_or (as_object e) (λ ns. members_equal ms ns) false

  pub items_equal : Items → Items → Bool
  items_equal no_items no_items = true
  items_equal no_items (item e es) = false
  items_equal (item d ds) no_items = false
  items_equal (item d ds) (item e es) = equals d e && items_equal ds es

  pub members_equal : Members → Members → Bool
  members_equal no_members no_members = true
  members_equal no_members (member l e ns) = false
  members_equal (member k d ms) no_members = false
  members_equal (member k d ms) (member l e ns) = bytes_eq k l && (equals d e && members_equal ms ns)
