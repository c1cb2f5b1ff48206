-- What the boolean helpers and `len` evaluate to.
use Rattle.std.specs.Prelude.{ℕ, Bool, true, false, not, ◌&&◌, ◌||◌, if◌then◌else◌, List, [], ◌∷◌, length, codes}
use Rattle.std.specs.declared.cmp.Ordering.{Ordering}
use Rattle.std.specs.declared.cmp.Ordering.TheVariants.{Less, Equal, Greater}
use Rattle.serde_json.specs.Data.{Data, null, boolean, number, string, array, object}
use Rattle.handlebars_base.specs.Answers.{Answer, gives, fails_for}
use Rattle.handlebars_base.specs.Compare.{compared}
use Rattle.handlebars_base.specs.Equal.{equals}
use Rattle.handlebars_base.specs.PathAndData.{PathAndData}
use Rattle.handlebars_base.specs.Optional.{with_or}
use Rattle.handlebars_base.specs.Reasons.{param_not_found_for_name}
use Rattle.handlebars_base.specs.Scoped.{data_in}
use Rattle.handlebars_base.specs.Values.{truth}
use Rattle.handlebars_helpers.specs.CallView.{CallView, param_at}
use Rattle.handlebars_helpers.specs.Params.{is_missing, by_value}
use Rattle.handlebars_helpers.specs.Iterations.{item_count, member_count}

-- ---- tests of two values

abbrev pub is_greater : Ordering → Bool
is_greater Less = false
is_greater Equal = false
is_greater Greater = true

abbrev pub is_less : Ordering → Bool
is_less Less = true
is_less Equal = false
is_less Greater = false

-- The order of two values satisfies this test. For two values that cannot be compared it is false.
abbrev pub ordered : (Ordering → Bool) → Data → Data → Bool
ordered is x y = with_or (compared x y) is false

abbrev pub differ : Data → Data → Bool
differ x y = not (equals x y)

abbrev pub greater : Data → Data → Bool
greater x y = ordered is_greater x y

abbrev pub greater_or_equal : Data → Data → Bool
greater_or_equal x y = ordered (λ o. not (is_less o)) x y

abbrev pub less : Data → Data → Bool
less x y = ordered is_less x y

abbrev pub less_or_equal : Data → Data → Bool
less_or_equal x y = ordered (λ o. not (is_greater o)) x y

-- ---- truth

-- `not`: the first parameter doesn't count as true.
abbrev pub negation : Bool → CallView → Answer Bool
negation strict v = by_value strict (codes "not") 0 v (λ x. gives (not (truth false x)))

-- `and`: all parameters count as true.
abbrev pub all_true : List PathAndData → Bool
all_true [] = true
all_true (p ∷ ps) = truth false (data_in p.found) && all_true ps

-- `or`: some parameter counts as true.
abbrev pub some_true : List PathAndData → Bool
some_true [] = false
some_true (p ∷ ps) = truth false (data_in p.found) || some_true ps

-- ---- `len`

-- the number of bytes of a string, or of members of an array or an object, and 0 for any other value
abbrev pub size : Data → ℕ
size null = 0
size (boolean b) = 0
size (number n) = 0
size (string s) = length s
size (array ds) = item_count ds
size (object ms) = member_count ms

abbrev pub no_x : Answer ℕ
no_x = fails_for (param_not_found_for_name (codes "len") (codes "x"))

-- The size of the first parameter. Fails without one, and in strict mode if its value is missing.
abbrev pub len : Bool → CallView → Answer ℕ
len strict v =
    with_or (param_at 0 v) (λ p. if strict && is_missing p.found then no_x else gives (size (data_in p.found))) no_x
