-- Laws of equality and of order.
use Rattle.std.specs.Prelude.{◌≡◌, ◌↔◌, ◌⊎◌, ℤ, true, Some, option_map}
use Rattle.std.specs.declared.cmp.Ordering.{Ordering}
use Rattle.std.specs.declared.cmp.Ordering.TheVariants.{Less, Equal, Greater}
use Rattle.serde_json.specs.Data.{Num, Data, null, boolean, number, string, array, object, Items, no_items, item, Members, no_members, member}
use Rattle.serde_json.specs.Find.{as_integer, of_integer}
use Rattle.handlebars_base.specs.Bytes.{Text}
use Rattle.handlebars_base.specs.Optional.{with_or}
use Rattle.handlebars_base.specs.Equal.{equals}
use Rattle.handlebars_base.specs.Compare.{compared}

-- ---- equality

-- a value with each number outside the range replaced by null
abbrev mutual
  pub in_range : Data → Data
  in_range null = null
  in_range (boolean b) = boolean b
  in_range (number n) = with_or (as_integer n) (λ z. number (of_integer z)) null
  in_range (string s) = string s
  in_range (array ds) = array (items_in_range ds)
  in_range (object ms) = object (members_in_range ms)

  pub items_in_range : Items → Items
  items_in_range no_items = no_items
  items_in_range (item d ds) = item (in_range d) (items_in_range ds)

  pub members_in_range : Members → Members
  members_in_range no_members = no_members
  members_in_range (member k d ms) = member k (in_range d) (members_in_range ms)

-- Two values are equal exactly if they are the same after each number outside the range is replaced by null.
abbrev pub EqualIsSame : Type 0
EqualIsSame = (d e : Data) → (equals d e ≡ true) ↔ (in_range d ≡ in_range e)

abbrev pub EqualIsReflexive : Type 0
EqualIsReflexive = (d : Data) → equals d d ≡ true

abbrev pub EqualIsSymmetric : Type 0
EqualIsSymmetric = (d e : Data) → equals d e ≡ true → equals e d ≡ true

abbrev pub EqualIsTransitive : Type 0
EqualIsTransitive = (d e f : Data) → equals d e ≡ true → equals e f ≡ true → equals d f ≡ true

-- ---- order

abbrev pub reversed : Ordering → Ordering
reversed Less = Greater
reversed Equal = Equal
reversed Greater = Less

-- Swapping two values reverses their order.
abbrev pub OrderIsAntisymmetric : Type 0
OrderIsAntisymmetric = (d e : Data) → compared e d ≡ option_map reversed (compared d e)

-- the first is less, or they are equal
abbrev pub IsAtMost : Data → Data → Type 0
IsAtMost d e = (compared d e ≡ Some Less) ⊎ (compared d e ≡ Some Equal)

-- On values of this kind the order is total and transitive.
pub record IsTotalOrder (kind : Data → Type 0) : Type 0 where
  pub total : (d e : Data) → kind d → kind e → IsAtMost d e ⊎ IsAtMost e d
  pub transitive : (d e f : Data) → kind d → kind e → kind f → IsAtMost d e → IsAtMost e f → IsAtMost d f

-- a number in the range
abbrev pub IsNumber : Data → Type 0
IsNumber d = (n : Num) × (z : ℤ) × (d ≡ number n) × (as_integer n ≡ Some z)

abbrev pub IsTextValue : Data → Type 0
IsTextValue d = (s : Text) × (d ≡ string s)

-- Two numbers are ordered as equal exactly if they are equal.
abbrev pub OrderAgreesOnNumbers : Type 0
OrderAgreesOnNumbers = (d e : Data) → IsNumber d → IsNumber e → (compared d e ≡ Some Equal) ↔ (equals d e ≡ true)
