-- What is known after one step of a reader, which returned a value or none.
use Rattle.std.proofs.Common.{◌≡◌, ◌<◌, Bool, true, false, cond, eqb, List, length, Option, Some, None, refl, sym, ◌⊎◌, inl, inr, arith}
use Rattle.std.proofs.lemmas.Bool.{eqb-true, eqb-false}
use Rattle.std.specs.Option.{option_map}
use Rattle.handlebars_base.specs.Optional.{◌>>=◌, with_or}

-- ---- chains and choices

pub none_or_some : {A : Type 0} (o : Option A) → (o ≡ None) ⊎ ((x : A) × (o ≡ Some x))
none_or_some None = inl refl
none_or_some (Some x) = inr (x, refl)

pub bind_some : {A B : Type 0} (o : Option A) (f : A → Option B) (y : B) → (o >>= f) ≡ Some y →
    (x : A) × (o ≡ Some x) × (f x ≡ Some y)
bind_some None f y e = absurd cc
bind_some (Some x) f y e = (x, refl, e)

pub with_or_is : {A B : Type 0} (o : Option A) (f : A → B) (other y : B) → with_or o f other ≡ y →
    ((x : A) × (o ≡ Some x) × (f x ≡ y)) ⊎ ((o ≡ None) × (other ≡ y))
with_or_is None f other y e = inr (refl, e)
with_or_is (Some x) f other y e = inl (x, refl, e)

-- ---- tests

pub guard_some : {A : Type 0} (b : Bool) (x y : A) → cond b None (Some x) ≡ Some y → (b ≡ false) × (x ≡ y)
guard_some true x y e = absurd cc
guard_some false x y e = (refl, cc)

pub guard_bind : {A : Type 0} (b : Bool) (o : Option A) (y : A) → cond b None o ≡ Some y → (b ≡ false) × (o ≡ Some y)
guard_bind true o y e = absurd cc
guard_bind false o y e = (refl, e)

pub cond_is : {A : Type 0} (b : Bool) (x y z : A) → cond b x y ≡ z → ((b ≡ true) × (x ≡ z)) ⊎ ((b ≡ false) × (y ≡ z))
cond_is true x y z e = inl (refl, e)
cond_is false x y z e = inr (refl, e)

pub cond_none : {A : Type 0} (b : Bool) (x : A) → cond b (Some x) None ≡ None → b ≡ false
cond_none true x e = absurd cc
cond_none false x e = refl

-- ---- what a reader's value represents

pub map_some : {A B : Type 0} (f : A → B) (o : Option A) (y : B) → option_map f o ≡ Some y →
    (x : A) × (o ≡ Some x) × (f x ≡ y)
map_some f None y e = absurd cc
map_some f (Some x) y e = (x, refl, cc)

pub map_none : {A B : Type 0} (f : A → B) (o : Option A) → option_map f o ≡ None → o ≡ None
map_none f None e = refl
map_none f (Some x) e = absurd cc

pub option_map-cond : {A B : Type 0} (f : A → B) (b : Bool) (x : A) (o : Option A)
    → option_map f (cond b (Some x) o) ≡ cond b (Some (f x)) (option_map f o)
option_map-cond f true x o = refl
option_map-cond f false x o = refl

-- ---- what `is_empty` says

pub is_empty_length : {A : Type 0} (t : List A) → true ≡ eqb (length t) 0 → length t ≡ 0
is_empty_length t e = eqb-true (length t) 0 (sym e)

pub nonempty : {A : Type 0} (t : List A) → false ≡ eqb (length t) 0 → 0 < length t
nonempty t e = let h = eqb-false (length t) 0 (sym e) in omega arith
