-- Lists of states without duplicates, and lists of faults that are empty.
use Rattle.std.proofs.Common.{◌≡◌, Bool, true, false, not, ◌&&◌, if◌then◌else◌, cond, List, [], ◌∷◌, ◌++◌, map, refl, sym, ap, ◌∙◌, subst}
use Rattle.std.specs.List.{list_all, filter, flat_map, AllByRecursion}
use Rattle.handlebars_html.specs.Html.{Html}
use Rattle.handlebars_html.specs.Same.{is_same}
use Rattle.handlebars_html.specs.Rows.{is_among, with_state, with_states, each_state, without_state}
use Rattle.handlebars_html.specs.Faults.{Why, unless}
use Rattle.handlebars_html.proofs.Data.{both}
use Rattle.handlebars_html.proofs.SameStates.{decides_same}

pub true-false : {P : Type 0} → true ≡ false → P
true-false e = cc

pub by_both : {P : Type 0} (x y : Bool) → (x && y) ≡ true → (x ≡ true → y ≡ true → P) → P
by_both x y is go = let each = both x y is in go each.0 each.1

pub and-true : (x y : Bool) → x ≡ true → y ≡ true → (x && y) ≡ true
and-true true y h k = k
and-true false y h k = cc

pub same-is : (h g : Html) → is_same h g ≡ true → h ≡ g
same-is h g is = (decides_same h g).0 is

pub is-same : (h g : Html) → h ≡ g → is_same h g ≡ true
is-same h g is = (decides_same h g).1 is

-- ---- what holds of all

pub All-map : {X : Type 0} (P Q : X → Type 0) → ((x : X) → P x → Q x) → (xs : List X) → AllByRecursion P xs → AllByRecursion Q xs
All-map P Q to [] all = tt
All-map P Q to (x ∷ xs) all = (to x all.0, All-map P Q to xs all.1)

pub All-both : {X : Type 0} (P Q R : X → Type 0) → ((x : X) → P x → Q x → R x) → (xs : List X) → AllByRecursion P xs
    → AllByRecursion Q xs → AllByRecursion R xs
All-both P Q R to [] all others = tt
All-both P Q R to (x ∷ xs) all others = (to x all.0 others.0, All-both P Q R to xs all.1 others.1)

pub All-each : {X : Type 0} (P : X → Type 0) → ((x : X) → P x) → (xs : List X) → AllByRecursion P xs
All-each P each [] = tt
All-each P each (x ∷ xs) = (each x, All-each P each xs)

pub All-first : {X : Type 0} (P : X → Type 0) (xs ys : List X) → AllByRecursion P (xs ++ ys) → AllByRecursion P xs
All-first P [] ys all = tt
All-first P (x ∷ xs) ys all = (all.0, All-first P xs ys all.1)

pub All-later : {X : Type 0} (P : X → Type 0) (xs ys : List X) → AllByRecursion P (xs ++ ys) → AllByRecursion P ys
All-later P [] ys all = all
All-later P (x ∷ xs) ys all = All-later P xs ys all.1

pub All-append : {X : Type 0} (P : X → Type 0) (xs ys : List X) → AllByRecursion P xs → AllByRecursion P ys
    → AllByRecursion P (xs ++ ys)
All-append P [] ys all others = others
All-append P (x ∷ xs) ys all others = (all.0, All-append P xs ys all.1 others)

pub All-of_map : {X Y : Type 0} (P : Y → Type 0) (f : X → Y) (xs : List X) → AllByRecursion P (map f xs)
    → AllByRecursion (λ x. P (f x)) xs
All-of_map P f [] all = tt
All-of_map P f (x ∷ xs) all = (all.0, All-of_map P f xs all.1)

pub All-to_map : {X Y : Type 0} (P : Y → Type 0) (f : X → Y) (xs : List X) → AllByRecursion (λ x. P (f x)) xs
    → AllByRecursion P (map f xs)
All-to_map P f [] all = tt
All-to_map P f (x ∷ xs) all = (all.0, All-to_map P f xs all.1)

pub All-of_flat : {X Y : Type 0} (P : Y → Type 0) (f : X → List Y) (xs : List X) → AllByRecursion P (flat_map f xs)
    → AllByRecursion (λ x. AllByRecursion P (f x)) xs
All-of_flat P f [] all = tt
All-of_flat P f (x ∷ xs) all = (All-first P (f x) (flat_map f xs) all, All-of_flat P f xs (All-later P (f x) (flat_map f xs) all))

pub All-to_flat : {X Y : Type 0} (P : Y → Type 0) (f : X → List Y) (xs : List X)
    → AllByRecursion (λ x. AllByRecursion P (f x)) xs → AllByRecursion P (flat_map f xs)
All-to_flat P f [] all = tt
All-to_flat P f (x ∷ xs) all = All-append P (f x) (flat_map f xs) all.0 (All-to_flat P f xs all.1)

pub All-of_test : {X : Type 0} (P : X → Type 0) (test : X → Bool) → ((x : X) → test x ≡ true → P x) → (xs : List X)
    → list_all test xs ≡ true → AllByRecursion P xs
All-of_test P test to [] is = tt
All-of_test P test to (x ∷ xs) is =
    by_both (test x) (list_all test xs) is (λ first rest. (to x first, All-of_test P test to xs rest))

-- what holds of those that pass a test holds of all, if all pass it
pub All-of_filter : {X : Type 0} (P : X → Type 0) (test : X → Bool) (xs : List X) → AllByRecursion (λ x. test x ≡ true) xs
    → AllByRecursion P (filter test xs) → AllByRecursion P xs
All-of_filter P test [] pass all = tt
All-of_filter P test (x ∷ xs) pass all = choose (test x) pass.0 all (All-of_filter P test xs pass.1)
  where
    choose : (b : Bool) → b ≡ true → AllByRecursion P (cond b (x ∷ filter test xs) (filter test xs))
        → (AllByRecursion P (filter test xs) → AllByRecursion P xs) → AllByRecursion P (x ∷ xs)
    choose true e all rest = (all.0, rest all.1)
    choose false e all rest = true-false (sym e)

pub All-to_filter : {X : Type 0} (P : X → Type 0) (test : X → Bool) (xs : List X) → AllByRecursion P xs
    → AllByRecursion P (filter test xs)
All-to_filter P test [] all = tt
All-to_filter P test (x ∷ xs) all = choose (test x) (All-to_filter P test xs all.1)
  where
    choose : (b : Bool) → AllByRecursion P (filter test xs) → AllByRecursion P (cond b (x ∷ filter test xs) (filter test xs))
    choose true rest = (all.0, rest)
    choose false rest = rest

-- ---- empty lists

pub empty-first : {X : Type 0} (xs ys : List X) → xs ++ ys ≡ [] → xs ≡ []
empty-first [] ys is = refl
empty-first (x ∷ xs) ys is = cc

pub empty-later : {X : Type 0} (xs ys : List X) → xs ++ ys ≡ [] → ys ≡ []
empty-later [] ys is = is
empty-later (x ∷ xs) ys is = cc

pub empty-append : {X : Type 0} (xs ys : List X) → xs ≡ [] → ys ≡ [] → xs ++ ys ≡ []
empty-append xs ys first later = ap (λ (zs : List _). zs ++ ys) first ∙ later

pub empty-of_map : {X Y : Type 0} (f : X → Y) (xs : List X) → map f xs ≡ [] → xs ≡ []
empty-of_map f [] is = refl
empty-of_map f (x ∷ xs) is = cc

pub empty-of_flat : {X Y : Type 0} (f : X → List Y) (xs : List X) → flat_map f xs ≡ [] → AllByRecursion (λ x. f x ≡ []) xs
empty-of_flat f [] is = tt
empty-of_flat f (x ∷ xs) is = (empty-first (f x) (flat_map f xs) is, empty-of_flat f xs (empty-later (f x) (flat_map f xs) is))

pub empty-to_flat : {X Y : Type 0} (f : X → List Y) (xs : List X) → AllByRecursion (λ x. f x ≡ []) xs → flat_map f xs ≡ []
empty-to_flat f [] all = refl
empty-to_flat f (x ∷ xs) all = empty-append (f x) (flat_map f xs) all.0 (empty-to_flat f xs all.1)

pub unless-true : (b : Bool) (w : Why) → unless b w ≡ [] → b ≡ true
unless-true true w is = refl
unless-true false w is = cc

pub not-true : (b : Bool) → not b ≡ true → b ≡ false
not-true true is = cc
not-true false is = refl

pub not-false : (b : Bool) → b ≡ false → not b ≡ true
not-false true is = cc
not-false false is = refl

pub unless-empty : (b : Bool) (w : Why) → b ≡ true → unless b w ≡ []
unless-empty true w is = refl
unless-empty false w is = cc

-- ---- states

-- what holds of all holds of each that is among them
pub among-has : (P : Html → Type 0) (hs : List Html) → AllByRecursion P hs → (g : Html) → is_among hs g ≡ true → P g
among-has P [] all g is = cc
among-has P (h ∷ hs) all g is = choose (among-has P hs all.1 g) (is_same h g) refl is
  where
    choose : (is_among hs g ≡ true → P g) → (b : Bool) → is_same h g ≡ b → (if b then true else is_among hs g) ≡ true → P g
    choose rest true e is = subst P (same-is h g e) all.0
    choose rest false e is = rest is

with_state-has : (P : Html → Type 0) (hs : List Html) (g : Html) → AllByRecursion P (with_state hs g)
    → AllByRecursion P hs × P g
with_state-has P hs g all = choose (is_among hs g) refl all
  where
    choose : (b : Bool) → is_among hs g ≡ b → AllByRecursion P (if b then hs else hs ++ g ∷ []) → AllByRecursion P hs × P g
    choose true e all = (all, among-has P hs all g e)
    choose false e all = (All-first P hs (g ∷ []) all, (All-later P hs (g ∷ []) all).0)

with_state-all : (P : Html → Type 0) (hs : List Html) (g : Html) → AllByRecursion P hs → P g
    → AllByRecursion P (with_state hs g)
with_state-all P hs g all one = choose (is_among hs g)
  where
    choose : (b : Bool) → AllByRecursion P (if b then hs else hs ++ g ∷ [])
    choose true = all
    choose false = All-append P hs (g ∷ []) all (one, tt)

pub with_states-has : (P : Html → Type 0) (hs gs : List Html) → AllByRecursion P (with_states hs gs)
    → AllByRecursion P hs × AllByRecursion P gs
with_states-has P hs [] all = (all, tt)
with_states-has P hs (g ∷ gs) all =
    let rest = with_states-has P (with_state hs g) gs all in
    let first = with_state-has P hs g rest.0 in (first.0, (first.1, rest.1))

pub with_states-all : (P : Html → Type 0) (hs gs : List Html) → AllByRecursion P hs → AllByRecursion P gs
    → AllByRecursion P (with_states hs gs)
with_states-all P hs [] all others = all
with_states-all P hs (g ∷ gs) all others =
    with_states-all P (with_state hs g) gs (with_state-all P hs g all others.0) others.1

pub each_state-has : (P : Html → Type 0) (f : Html → Html) (hs : List Html) → AllByRecursion P (each_state f hs)
    → AllByRecursion (λ h. P (f h)) hs
each_state-has P f hs all = All-of_map P f hs (with_states-has P [] (map f hs) all).1

pub each_state-all : (P : Html → Type 0) (f : Html → Html) (hs : List Html) → AllByRecursion (λ h. P (f h)) hs
    → AllByRecursion P (each_state f hs)
each_state-all P f hs all = with_states-all P [] (map f hs) tt (All-to_map P f hs all)

-- what holds of all states but one, and of that one if it is among them, holds of all
pub without_state-has : (P : Html → Type 0) (g : Html) (hs : List Html) → (is_among hs g ≡ true → P g)
    → AllByRecursion P (without_state hs g) → AllByRecursion P hs
without_state-has P g [] one all = tt
without_state-has P g (h ∷ hs) one all = choose (is_same h g) refl one all (without_state-has P g hs)
  where
    choose : (b : Bool) → is_same h g ≡ b → ((if b then true else is_among hs g) ≡ true → P g)
        → AllByRecursion P (cond (not b) (h ∷ without_state hs g) (without_state hs g))
        → ((is_among hs g ≡ true → P g) → AllByRecursion P (without_state hs g) → AllByRecursion P hs)
        → AllByRecursion P (h ∷ hs)
    choose true e one all rest = (subst P (sym (same-is h g e)) (one refl), rest (λ is. one refl) all)
    choose false e one all rest = (all.0, rest one all.1)

pub without_state-all : (P : Html → Type 0) (g : Html) (hs : List Html) → AllByRecursion P hs
    → AllByRecursion P (without_state hs g)
without_state-all P g [] all = tt
without_state-all P g (h ∷ hs) all = choose (is_same h g) (without_state-all P g hs all.1)
  where
    choose : (b : Bool) → AllByRecursion P (without_state hs g)
        → AllByRecursion P (cond (not b) (h ∷ without_state hs g) (without_state hs g))
    choose true rest = rest
    choose false rest = (all.0, rest)
