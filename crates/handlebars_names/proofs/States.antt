-- States in which something is known, and those that follow them.
use Rattle.std.proofs.Common.{◌≡◌, Bool, true, false, not, ◌&&◌, ◌||◌, List, [], ◌∷◌, ◌++◌, refl, sym, ap, ◌∙◌, subst, Option, None, Some, cond}
use Rattle.std.specs.List.{AllByRecursion, list_all}
use Rattle.std.specs.Str.{bytes_eq}
use Rattle.std.proofs.lemmas.Slice.Eq.{bytes_eq-Decides}
use Rattle.handlebars_base.specs.Bytes.{Text}
use Rattle.handlebars_template.specs.Tree.{Tree}
use Rattle.handlebars_scope.specs.Resolve.{or_else}
use Rattle.handlebars_scope.specs.Scopes.{Frame}
use Rattle.handlebars_semantics.specs.Inclusion.{is_current, newest}
use Rattle.handlebars_semantics.specs.State.{CapturedBlocks, State, outer_frames, nearest_as, partial_in, with_partial}
use Rattle.handlebars_html.specs.Ascii.{is_one_of}
use Rattle.handlebars_names.specs.Scopes.{Scope, without_block, covers}

-- ---- options

abbrev pub IsSome : {A : Type 0} → Option A → Type 0
IsSome o = (x : _) × (o ≡ Some x)

pub none-some : {A P : Type 0} {x : A} → None ≡ Some x → P
none-some is = cc

pub some-same : {A : Type 0} (x y : A) → Some x ≡ Some y → x ≡ y
some-same x y is = cc

or_else-left : (a b : Option Tree) → IsSome a → IsSome (or_else a b)
or_else-left (Some x) b is = (x, refl)
or_else-left None b is = none-some is.1

or_else-right : (a b : Option Tree) → IsSome b → IsSome (or_else a b)
or_else-right (Some x) b is = (x, refl)
or_else-right None b is = is

-- ---- the current name

-- The second is none, or the first.
abbrev pub IsNoneOr : Option Text → Option Text → Type 0
IsNoneOr n None = Unit {0}
IsNoneOr n (Some x) = n ≡ Some x

pub noneor-same : (n : Option Text) → IsNoneOr n n
noneor-same None = tt
noneor-same (Some x) = refl

pub noneor-then : (a b c : Option Text) → IsNoneOr a b → IsNoneOr b c → IsNoneOr a c
noneor-then a b None first second = tt
noneor-then a b (Some x) first second = subst (λ (o : Option Text). IsNoneOr a o) second first

pub noneor-unnamed : (a b c : Option Text) → a ≡ None → IsNoneOr a c → IsNoneOr b c
noneor-unnamed a b None none is = tt
noneor-unnamed a b (Some x) none is = none-some (sym none ∙ is)

-- A name that isn't that of the tree isn't the current one.
pub not-current : (m : Text) (n c : Option Text) → IsNoneOr n c → is_current m n ≡ false → is_current m c ≡ false
not-current m n None is other = refl
not-current m n (Some x) is other = subst (λ (o : Option Text). is_current m o ≡ false) is other

-- ---- scope frames

-- The frames around the nearest one are the same, and that one has at least as many partials.
abbrev pub Keeps : List Frame → List Frame → Type 0
Keeps [] gs = gs ≡ []
Keeps (f ∷ fs) [] = ⊥
Keeps (f ∷ fs) (g ∷ gs) = ((n : Text) → IsSome (f.partial n) → IsSome (g.partial n)) × (gs ≡ fs)

pub keeps-same : (fs : List Frame) → Keeps fs fs
keeps-same [] = refl
keeps-same (f ∷ fs) = (λ n is. is, refl)

pub keeps-then : (fs gs hs : List Frame) → Keeps fs gs → Keeps gs hs → Keeps fs hs
keeps-then [] [] [] a b = refl
keeps-then [] [] (h ∷ hs) a b = b
keeps-then [] (g ∷ gs) hs a b = cc
keeps-then (f ∷ fs) [] hs a b = absurd a
keeps-then (f ∷ fs) (g ∷ gs) [] a b = absurd b
keeps-then (f ∷ fs) (g ∷ gs) (h ∷ hs) a b = (λ n is. b.0 n (a.0 n is), b.1 ∙ a.1)

pub keeps-nearest : (change : Frame → Frame) → ((f : Frame) (n : Text) → IsSome (f.partial n) → IsSome ((change f).partial n))
    → (fs : List Frame) → Keeps fs (nearest_as change fs)
keeps-nearest change more [] = refl
keeps-nearest change more (f ∷ fs) = (more f, refl)

-- where a frame is left, those around it are the same
pub keeps-outer : (f : Frame) (fs gs : List Frame) → Keeps (f ∷ fs) gs → outer_frames gs ≡ fs
keeps-outer f fs [] is = absurd is
keeps-outer f fs (g ∷ gs) is = is.1

keeps-partial : (fs gs : List Frame) → Keeps fs gs → (n : Text) → IsSome (partial_in fs n) → IsSome (partial_in gs n)
keeps-partial [] gs keeps n is = none-some is.1
keeps-partial (f ∷ fs) [] keeps n is = absurd keeps
keeps-partial (f ∷ fs) (g ∷ gs) keeps n is = by (f.partial n) refl is
  where
    by : (o : Option Tree) → f.partial n ≡ o → IsSome (or_else o (partial_in fs n))
        → IsSome (or_else (g.partial n) (partial_in gs n))
    by (Some x) same e = or_else-left (g.partial n) (partial_in gs n) (keeps.0 n (x, same))
    by None same e =
        or_else-right (g.partial n) (partial_in gs n)
        (subst (λ (hs : List Frame). IsSome (partial_in hs n)) (sym keeps.1) e)

with_partial-more : (m : Text) (t : Tree) (f : Frame) (n : Text) → IsSome (f.partial n)
    → IsSome ((with_partial m t f).partial n)
with_partial-more m t f n is = by (bytes_eq m n)
  where
    by : (b : Bool) → IsSome (cond b (Some t) (f.partial n))
    by true = (t, refl)
    by false = is

pub keeps-with_partial : (m : Text) (t : Tree) (fs : List Frame) → Keeps fs (nearest_as (with_partial m t) fs)
keeps-with_partial m t fs = keeps-nearest (with_partial m t) (with_partial-more m t) fs

-- ---- what is known

abbrev pub AreSome : List Frame → Type 0
AreSome [] = ⊥
AreSome (f ∷ fs) = Unit {0}

-- What a scope has is so, in these frames and with these captured blocks.
pub record HoldsIn (h : Scope) (fs : List Frame) (ks : CapturedBlocks) : Type 0 where
  pub partials : AllByRecursion (λ n. IsSome (partial_in fs n)) h.partials
  pub block : h.block ≡ true → newest ks ≡ None → ⊥
  pub some : AreSome fs

abbrev pub HoldsAt : Scope → State → Type 0
HoldsAt h s = HoldsIn h s.blocks s.captured

all-map : {A : Type 0} {P Q : A → Type 0} (xs : List A) → ((x : A) → P x → Q x) → AllByRecursion P xs → AllByRecursion Q xs
all-map [] to all = tt
all-map (x ∷ xs) to all = (to x all.0, all-map xs to all.1)

some-next : (fs gs : List Frame) → Keeps fs gs → AreSome fs → AreSome gs
some-next [] gs keeps is = absurd is
some-next (f ∷ fs) [] keeps is = keeps
some-next (f ∷ fs) (g ∷ gs) keeps is = tt

pub holds-next : (h : Scope) (fs gs : List Frame) (ks ls : CapturedBlocks) → HoldsIn h fs ks → Keeps fs gs → ls ≡ ks
    → HoldsIn h gs ls
holds-next h fs gs ks ls holds keeps same = record {
  partials = all-map h.partials (λ n is. keeps-partial fs gs keeps n is) holds.partials;
  block = λ is none. holds.block is (ap newest (sym same) ∙ none);
  some = some-next fs gs keeps holds.some;
}

pub holds-push : (h : Scope) (f : Frame) (fs : List Frame) (ks : CapturedBlocks) → HoldsIn h fs ks → HoldsIn h (f ∷ fs) ks
holds-push h f fs ks holds = record {
  partials = all-map h.partials (λ n is. or_else-right (f.partial n) (partial_in fs n) is) holds.partials;
  block = holds.block;
  some = tt;
}

-- whatever is captured, if nothing is known of that
pub holds-without_block : (h : Scope) (fs : List Frame) (ks ls : CapturedBlocks) → HoldsIn h fs ks
    → HoldsIn (without_block h) fs ls
holds-without_block h fs ks ls holds = record {
  partials = holds.partials;
  block = λ is. cc;
  some = holds.some;
}

pub one_of-all : (P : Text → Type 0) (xs : List Text) → AllByRecursion P xs → (n : Text) → is_one_of xs n ≡ true → P n
one_of-all P [] all n is = cc
one_of-all P (x ∷ xs) all n is = by (one_of-all P xs all.1 n) (bytes_eq x n) refl is
  where
    by : (is_one_of xs n ≡ true → P n) → (b : Bool) → bytes_eq x n ≡ b → (b || is_one_of xs n) ≡ true → P n
    by rest true same e = subst P ((bytes_eq-Decides x n).0 same) all.0
    by rest false same e = rest e

and-both : (a b : Bool) → (a && b) ≡ true → (a ≡ true) × (b ≡ true)
and-both true b is = (refl, is)
and-both false b is = cc

covered-partials : (P : Text → Type 0) (xs ns : List Text) → AllByRecursion P xs → list_all (is_one_of xs) ns ≡ true
    → AllByRecursion P ns
covered-partials P xs [] all is = tt
covered-partials P xs (n ∷ ns) all is =
    let both = and-both (is_one_of xs n) (list_all (is_one_of xs) ns) is in
    (one_of-all P xs all n both.0, covered-partials P xs ns all both.1)

pub holds-covered : (h g : Scope) (fs : List Frame) (ks : CapturedBlocks) → covers h g ≡ true → HoldsIn g fs ks → HoldsIn h fs ks
holds-covered h g fs ks is holds =
    let both = and-both (list_all (is_one_of g.partials) h.partials) (not h.block || g.block) is in record {
      partials = covered-partials (λ n. IsSome (partial_in fs n)) g.partials h.partials holds.partials both.0;
      block = λ has. holds.block (by h.block has both.1);
      some = holds.some;
    }
  where
    by : (b : Bool) → b ≡ true → (not b || g.block) ≡ true → g.block ≡ true
    by true same e = e
    by false same e = cc

set-there : (m : Text) (t : Tree) (fs : List Frame) → AreSome fs → IsSome (partial_in (nearest_as (with_partial m t) fs) m)
set-there m t [] is = absurd is
set-there m t (f ∷ fs) is =
    or_else-left ((with_partial m t f).partial m) (partial_in fs m) (by (bytes_eq m m) ((bytes_eq-Decides m m).1 refl))
  where
    by : (b : Bool) → b ≡ true → IsSome (cond b (Some t) (f.partial m))
    by true same = (t, refl)
    by false same = cc

all-and-one : (P : Text → Type 0) (xs : List Text) (n : Text) → AllByRecursion P xs → P n → AllByRecursion P (xs ++ n ∷ [])
all-and-one P [] n all is = (is, tt)
all-and-one P (x ∷ xs) n all is = (all.0, all-and-one P xs n all.1 is)

-- A partial is set.
pub holds-set : (h : Scope) (m : Text) (t : Tree) (fs : List Frame) (ks : CapturedBlocks) → HoldsIn h fs ks
    → HoldsIn (record h { partials = h.partials ++ m ∷ [] }) (nearest_as (with_partial m t) fs) ks
holds-set h m t fs ks holds =
    let more = holds-next h fs (nearest_as (with_partial m t) fs) ks ks holds (keeps-with_partial m t fs) refl in record {
      partials = all-and-one (λ n. IsSome (partial_in (nearest_as (with_partial m t) fs) n)) h.partials m more.partials (set-there m t fs holds.some);
      block = holds.block;
      some = more.some;
    }
