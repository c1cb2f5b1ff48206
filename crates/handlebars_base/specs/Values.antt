-- What a value of JSON is rendered as, and whether it counts as true.
use Rattle.std.specs.Prelude.{[], ◌++◌, ◌==◌, ◌||◌, not, length, Bool, true, false, codes, decimal}
use Rattle.std.specs.Fmt.{signed_decimal}
use Rattle.handlebars_base.specs.Bytes.{Text}
use Rattle.serde_json.specs.Data.{Num, unsigned, negative, float, Data, null, boolean, number, string, array, object, Items, no_items, item, Members, no_members, member}

-- An integer is its decimal digits. A number outside the range counts as null.
abbrev pub rendered_number : Num → Text
rendered_number (unsigned n) = decimal n
rendered_number (negative z) = signed_decimal z
rendered_number (float x) = []

abbrev pub boolean_text : Bool → Text
boolean_text true = codes "true"
boolean_text false = codes "false"

-- what is written before a member: nothing before the first, otherwise a comma and a space
abbrev pub separator : Bool → Text
separator true = []
separator false = codes ", "

-- Null is empty, a text is itself, an array's members are in brackets, and an object shows none of its members.
abbrev mutual
  pub rendered : Data → Text
  rendered null = []
  rendered (boolean b) = boolean_text b
  rendered (number n) = rendered_number n
  rendered (string s) = s
  rendered (array ds) = codes "[" ++ rendered_items true ds ++ codes "]"
  rendered (object ms) = codes "[object]"

  -- the members; the flag says whether the first of them is the array's first
  pub rendered_items : Bool → Items → Text
  rendered_items first no_items = []
  rendered_items first (item d ds) = separator first ++ (rendered d ++ rendered_items false ds)

-- ---- truth

-- Whether a number counts as true: 0 does only with `include_zero`. A negative number isn't 0. A number outside the range
-- counts as null.
abbrev pub truth_of_number : Bool → Num → Bool
truth_of_number include_zero (unsigned n) = include_zero || not (n == 0)
truth_of_number include_zero (negative z) = true
truth_of_number include_zero (float x) = false

abbrev pub has_items : Items → Bool
has_items no_items = false
has_items (item d ds) = true

abbrev pub has_members : Members → Bool
has_members no_members = false
has_members (member k d ms) = true

-- Whether a value counts as true; `include_zero` says whether 0 does. A boolean is itself. A text, an array or an object
-- counts as true if it isn't empty.
abbrev pub truth : Bool → Data → Bool
truth include_zero null = false
truth include_zero (boolean b) = b
truth include_zero (number n) = truth_of_number include_zero n
truth include_zero (string s) = not (length s == 0)
truth include_zero (array ds) = has_items ds
truth include_zero (object ms) = has_members ms
