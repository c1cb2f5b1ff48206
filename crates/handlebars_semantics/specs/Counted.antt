-- What a value counts as: a number out of range counts as null, wherever it is in the value.
use Rattle.std.specs.Prelude.{◌≡◌, Bool, List, option_map}
use Rattle.serde_json.specs.Data.{Num, unsigned, negative, float, Data, null, boolean, number, string, array, object, Items, no_items, item, Members, no_members, member}
use Rattle.handlebars_base.specs.Answers.{answer_map}
use Rattle.handlebars_base.specs.Bytes.{Text}
use Rattle.handlebars_base.specs.Compare.{compared}
use Rattle.handlebars_base.specs.Equal.{equals}
use Rattle.handlebars_base.specs.Values.{rendered, truth}
use Rattle.handlebars_scope.specs.Resolve as scope

abbrev pub counted_number : Num → Data
counted_number (unsigned n) = number (unsigned n)
counted_number (negative z) = number (negative z)
counted_number (float x) = null

abbrev mutual
  pub counted : Data → Data
  counted null = null
  counted (boolean b) = boolean b
  counted (number n) = counted_number n
  counted (string s) = string s
  counted (array ds) = array (counted_items ds)
  counted (object ms) = object (counted_members ms)

  pub counted_items : Items → Items
  counted_items no_items = no_items
  counted_items (item d ds) = item (counted d) (counted_items ds)

  pub counted_members : Members → Members
  counted_members no_members = no_members
  counted_members (member k d ms) = member k (counted d) (counted_members ms)

-- Nothing that is computed from a value distinguishes it from what it counts as: not its text, its truth, its equality or
-- order with another value, nor what names lead to in it.
abbrev pub RendersCounted : Type 0
RendersCounted = (d : Data) → rendered d ≡ rendered (counted d)

abbrev pub JudgesCounted : Type 0
JudgesCounted = (include_zero : Bool) (d : Data) → truth include_zero d ≡ truth include_zero (counted d)

abbrev pub EqualsCounted : Type 0
EqualsCounted = (d e : Data) → equals d e ≡ equals (counted d) (counted e)

abbrev pub ComparesCounted : Type 0
ComparesCounted = (d e : Data) → compared d e ≡ compared (counted d) (counted e)

abbrev pub WalksCounted : Type 0
WalksCounted = (d : Data) (names : List Text)
    → answer_map (option_map counted) (scope.value_at d names) ≡ scope.value_at (counted d) names
