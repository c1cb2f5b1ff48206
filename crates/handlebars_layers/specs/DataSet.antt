-- Data are a set: two proofs that the same two data are equal are equal. So a fact of a struct may be such an equation.
use Rattle.std.specs.Prelude.{◌≡◌, ℕ, List, refl}
use Rattle.std.proofs.Common.{ap, subst}
use Rattle.std.specs.Coded.{Coded-set, coded_ℕ, coded_bool, coded_list, ×_prop, Unit-prop}
use Rattle.std.proofs.Props.{props}
use mathlib.Core.HLevel.{collapsible→set, ⊥_prop, ×₃_prop}
use Rattle.serde_json.specs.Data.{Num, Data, null, boolean, number, string, array, object, Items, no_items, item, Members, no_members, member}

number-set : IsSet Num
number-set = hlevel props

text-set : IsSet (List ℕ)
text-set = Coded-set (coded_list coded_ℕ)

-- the data are built alike, from equal parts
abbrev mutual
  Matches : Data → Data → Type 0
  Matches null null = Unit {0}
  Matches (boolean a) (boolean b) = a ≡ b
  Matches (number a) (number b) = a ≡ b
  Matches (string a) (string b) = a ≡ b
  Matches (array as_) (array bs) = ItemsMatch as_ bs
  Matches (object as_) (object bs) = MembersMatch as_ bs
  Matches _ _ = ⊥

  ItemsMatch : Items → Items → Type 0
  ItemsMatch no_items no_items = Unit {0}
  ItemsMatch (item a as_) (item b bs) = Matches a b × ItemsMatch as_ bs
  ItemsMatch _ _ = ⊥

  MembersMatch : Members → Members → Type 0
  MembersMatch no_members no_members = Unit {0}
  MembersMatch (member k a as_) (member l b bs) = (k ≡ l) × Matches a b × MembersMatch as_ bs
  MembersMatch _ _ = ⊥

mutual
  Matches-prop : (x y : Data) → IsProp (Matches x y)
  Matches-prop null null = Unit-prop
  Matches-prop (boolean a) (boolean b) = Coded-set coded_bool a b
  Matches-prop (number a) (number b) = number-set a b
  Matches-prop (string a) (string b) = text-set a b
  Matches-prop (array a) (array b) = ItemsMatch-prop a b
  Matches-prop (object a) (object b) = MembersMatch-prop a b
  Matches-prop _ _ = ⊥_prop

  ItemsMatch-prop : (x y : Items) → IsProp (ItemsMatch x y)
  ItemsMatch-prop no_items no_items = Unit-prop
  ItemsMatch-prop (item a as_) (item b bs) = ×_prop (Matches-prop a b) (ItemsMatch-prop as_ bs)
  ItemsMatch-prop _ _ = ⊥_prop

  MembersMatch-prop : (x y : Members) → IsProp (MembersMatch x y)
  MembersMatch-prop no_members no_members = Unit-prop
  MembersMatch-prop (member k a as_) (member l b bs) =
      ×₃_prop (text-set k l) (Matches-prop a b) (MembersMatch-prop as_ bs)
  MembersMatch-prop _ _ = ⊥_prop

mutual
  matches-itself : (x : Data) → Matches x x
  matches-itself null = tt
  matches-itself (boolean a) = refl
  matches-itself (number a) = refl
  matches-itself (string a) = refl
  matches-itself (array a) = items-match a
  matches-itself (object a) = members-match a

  items-match : (x : Items) → ItemsMatch x x
  items-match no_items = tt
  items-match (item a as_) = (matches-itself a, items-match as_)

  members-match : (x : Members) → MembersMatch x x
  members-match no_members = tt
  members-match (member k a as_) = (refl, matches-itself a, members-match as_)

mutual
  equal : (x y : Data) → Matches x y → x ≡ y
  equal null null h = refl
  equal (boolean a) (boolean b) h = ap boolean h
  equal (number a) (number b) h = ap number h
  equal (string a) (string b) h = ap string h
  equal (array a) (array b) h = ap array (items-equal a b h)
  equal (object a) (object b) h = ap object (members-equal a b h)
  equal _ _ h = absurd h

  items-equal : (x y : Items) → ItemsMatch x y → x ≡ y
  items-equal no_items no_items h = refl
  items-equal (item a as_) (item b bs) h = λ i. item (equal a b h.0 i) (items-equal as_ bs h.1 i)
  items-equal _ _ h = absurd h

  members-equal : (x y : Members) → MembersMatch x y → x ≡ y
  members-equal no_members no_members h = refl
  members-equal (member k a as_) (member l b bs) h = λ i. member (h.0 i) (equal a b h.1 i) (members-equal as_ bs h.2 i)
  members-equal _ _ h = absurd h

pub Data-set : IsSet Data
Data-set = collapsible→set
    (λ x y p. equal x y (subst (λ (z : Data). Matches x z) p (matches-itself x)))
    (λ x y p q. ap (equal x y) (Matches-prop x y (subst (λ (z : Data). Matches x z) p (matches-itself x))
    (subst (λ (z : Data). Matches x z) q (matches-itself x))))
