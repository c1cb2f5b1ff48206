-- Swapping values reverses their order, and the order is total on numbers and on texts.
use Rattle.std.proofs.Common.{◌≡◌, ℤ, false, Option, Some, None, option_map, refl, sym, ap, ap₂, ◌∙◌, ◌⊎◌, inl, inr}
use Rattle.std.proofs.lemmas.Bool.{true≢false}
use Rattle.std.proofs.lemmas.Cmp.{int_cmp_total, nat_list_cmp_total, upto}
use Rattle.std.specs.Cmp as cmp
use Rattle.std.specs.Cmp.{bool_cmp_total}
use Rattle.std.specs.Cmp.Lexicographic.{slice_cmp}
use Rattle.std.specs.Ordering.{ordering_reverse, is_gt, int_cmp, nat_cmp}
use Rattle.std.specs.declared.cmp.Ordering.{Ordering}
use Rattle.std.specs.declared.cmp.Ordering.TheVariants.{Less, Equal, Greater}
use Rattle.serde_json.specs.Data.{Data, null, boolean, number, string, array, object}
use Rattle.serde_json.specs.Find.{as_integer}
use Rattle.handlebars_base.specs.Compare.{compared, integers_compared, spelled_number}
use Rattle.handlebars_base.specs.ComparisonLaws.{reversed, OrderIsAntisymmetric, IsTotalOrder, IsNumber, IsTextValue}

-- ---- reversed

reversed-is : (r : Ordering) → ordering_reverse r ≡ reversed r
reversed-is Less = refl
reversed-is Equal = refl
reversed-is Greater = refl

turned : {K : Type 0} (R : K → K → Ordering) → cmp.IsTotalOrder R → (x y : K) → R y x ≡ reversed (R x y)
turned R o x y = o.antisymm y x ∙ reversed-is (R x y)

integers_compared-none : (x : Option ℤ) → integers_compared x None ≡ None
integers_compared-none None = refl
integers_compared-none (Some a) = refl

integers_compared-turned : (x y : Option ℤ) → integers_compared y x ≡ option_map reversed (integers_compared x y)
integers_compared-turned None None = refl
integers_compared-turned None (Some b) = refl
integers_compared-turned (Some a) None = refl
integers_compared-turned (Some a) (Some b) = ap Some (turned int_cmp int_cmp_total a b)

-- with a value that has no order with any other
none_turned : (x : Option ℤ) → None ≡ option_map reversed (integers_compared x None)
none_turned x = sym (ap (option_map reversed) (integers_compared-none x))

pub order_is_antisymmetric : OrderIsAntisymmetric
order_is_antisymmetric null null = refl
order_is_antisymmetric null (boolean c) = refl
order_is_antisymmetric null (number m) = integers_compared-none (as_integer m)
order_is_antisymmetric null (string t) = integers_compared-none (spelled_number t)
order_is_antisymmetric null (array es) = refl
order_is_antisymmetric null (object ns) = refl
order_is_antisymmetric (boolean b) (boolean c) = ap Some (turned _ bool_cmp_total b c)
order_is_antisymmetric (boolean b) null = refl
order_is_antisymmetric (boolean b) (number m) = integers_compared-none (as_integer m)
order_is_antisymmetric (boolean b) (string t) = integers_compared-none (spelled_number t)
order_is_antisymmetric (boolean b) (array es) = refl
order_is_antisymmetric (boolean b) (object ns) = refl
order_is_antisymmetric (number n) null = none_turned (as_integer n)
order_is_antisymmetric (number n) (boolean c) = none_turned (as_integer n)
order_is_antisymmetric (number n) (number m) = integers_compared-turned (as_integer n) (as_integer m)
order_is_antisymmetric (number n) (string t) = integers_compared-turned (as_integer n) (spelled_number t)
order_is_antisymmetric (number n) (array es) = none_turned (as_integer n)
order_is_antisymmetric (number n) (object ns) = none_turned (as_integer n)
order_is_antisymmetric (string s) null = none_turned (spelled_number s)
order_is_antisymmetric (string s) (boolean c) = none_turned (spelled_number s)
order_is_antisymmetric (string s) (number m) = integers_compared-turned (spelled_number s) (as_integer m)
order_is_antisymmetric (string s) (string t) = ap Some (turned _ nat_list_cmp_total s t)
order_is_antisymmetric (string s) (array es) = none_turned (spelled_number s)
order_is_antisymmetric (string s) (object ns) = none_turned (spelled_number s)
order_is_antisymmetric (array ds) null = refl
order_is_antisymmetric (array ds) (boolean c) = refl
order_is_antisymmetric (array ds) (number m) = integers_compared-none (as_integer m)
order_is_antisymmetric (array ds) (string t) = integers_compared-none (spelled_number t)
order_is_antisymmetric (array ds) (array es) = refl
order_is_antisymmetric (array ds) (object ns) = refl
order_is_antisymmetric (object ms) null = refl
order_is_antisymmetric (object ms) (boolean c) = refl
order_is_antisymmetric (object ms) (number m) = integers_compared-none (as_integer m)
order_is_antisymmetric (object ms) (string t) = integers_compared-none (spelled_number t)
order_is_antisymmetric (object ms) (array es) = refl
order_is_antisymmetric (object ms) (object ns) = refl

-- ---- at most

at_most : (o : Option Ordering) (r : Ordering) → o ≡ Some r → is_gt r ≡ false → (o ≡ Some Less) ⊎ (o ≡ Some Equal)
at_most o Less h k = inl h
at_most o Equal h k = inr h
at_most o Greater h k = absurd (true≢false k)

not_greater : (o : Option Ordering) (r : Ordering) → o ≡ Some r → (o ≡ Some Less) ⊎ (o ≡ Some Equal) → is_gt r ≡ false
not_greater o Less h k = refl
not_greater o Equal h k = refl
not_greater o Greater h (inl e) = cc
not_greater o Greater h (inr e) = cc

either_way : (o p : Option Ordering) (r : Ordering) → o ≡ Some r → p ≡ Some (reversed r) →
    ((o ≡ Some Less) ⊎ (o ≡ Some Equal)) ⊎ ((p ≡ Some Less) ⊎ (p ≡ Some Equal))
either_way o p Less h k = inl (inl h)
either_way o p Equal h k = inl (inr h)
either_way o p Greater h k = inr (inl k)

-- values of a kind are ordered as their contents are
module _ {K : Type 0} (R : K → K → Ordering) (o : cmp.IsTotalOrder R) (kind : Data → Type 0) (held : (d : Data) → kind d → K)
    (by : (d e : Data) (p : kind d) (q : kind e) → compared d e ≡ Some (R (held d p) (held e q))) where
  total_order : IsTotalOrder kind
  total_order = record {
    total = λ d e p q. either_way _ _ (R (held d p) (held e q)) (by d e p q) (by e d q p ∙ ap Some (turned R o (held d p) (held e q)));
    transitive = λ d e f p q r h k. at_most _ _ (by d f p r)
        (upto o (held d p) (held e q) (held f r) (not_greater _ _ (by d e p q) h) (not_greater _ _ (by e f q r) k));
  }

numbers_by : (d e : Data) (p : IsNumber d) (q : IsNumber e) → compared d e ≡ Some (int_cmp p.1 q.1)
numbers_by d e p q = ap₂ compared p.2 q.2 ∙ ap₂ integers_compared p.3 q.3

pub numbers_are_ordered : IsTotalOrder IsNumber
numbers_are_ordered = total_order int_cmp int_cmp_total IsNumber (λ d p. p.1) numbers_by

texts_by : (d e : Data) (p : IsTextValue d) (q : IsTextValue e) → compared d e ≡ Some (slice_cmp nat_cmp p.0 q.0)
texts_by d e p q = ap₂ compared p.1 q.1

pub texts_are_ordered : IsTotalOrder IsTextValue
texts_are_ordered = total_order (slice_cmp nat_cmp) nat_list_cmp_total IsTextValue (λ d p. p.0) texts_by
