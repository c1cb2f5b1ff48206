-- Frames by their number, and how paths are resolved from them.
use Rattle.std.proofs.Common.{◌≡◌, ◌⊎◌, inl, inr, ◌<◌, ◌≤◌, ◌+◌, ◌-◌, nat_lt, ℕ, zero, suc, arith, Bool, true, false, List, [], ◌∷◌, Option, Some, None, length, drop, refl, sym, ap, ◌∙◌}
use Rattle.std.proofs.Math.ListN.{drop_of_length-le}
use Rattle.std.proofs.lemmas.Bool.Decides.{nat_tests}
use Rattle.std.specs.Prelude.{slice_get}
use Rattle.serde_json.specs.Data.{Data}
use Rattle.handlebars_base.specs.Bytes.{Text}
use Rattle.handlebars_base.specs.Optional.{with_or}
use Rattle.handlebars_base.specs.Path.{Segment}
use Rattle.handlebars_scope.specs.Resolve.{along, frame_up, in_block_value, is_from_root, names_of, or_else, resolution_in, unbound_resolution, ups_in, variable_at}
use Rattle.handlebars_scope.specs.Scopes.{Frame}
use Rattle.handlebars_semantics.specs.State.{nearest_variables}
use Rattle.handlebars_layers.specs.Chain.{names_at}
use Rattle.handlebars_layers.specs.Frames.{base_value_at, bound_at, frames_up, frames_up_or_nearest, is_some_frame, nearest_resolution, frames_around}

lt_or_le : (a b : ℕ) → (a < b) ⊎ (b ≤ a)
lt_or_le zero zero = inr (omega arith)
lt_or_le zero (suc b) = inl (omega arith)
lt_or_le (suc a) zero = inr (omega arith)
lt_or_le (suc a) (suc b) = elim (lt_or_le a b) [ inl h ↦ inl (omega arith) | inr h ↦ inr (omega arith) ]

-- ---- frames from outside

outer-suc : (n : ℕ) (fs : List Frame) → n < length fs → Some (drop (suc n) fs) ≡ frames_around (drop n fs)
outer-suc n [] h = absurd (omega (arith, h))
outer-suc zero (f ∷ fs) h = refl
outer-suc (suc n) (f ∷ fs) h = outer-suc n fs (omega (arith, h))

pub outer-drop : (n : ℕ) (fs : List Frame) → n < length fs → Some (drop (n + 1) fs) ≡ frames_around (drop n fs)
outer-drop n fs h =
    let e : n + 1 ≡ suc n = omega arith in
    ap (λ m. Some (drop m fs)) e ∙ outer-suc n fs h

pub some-drop : (n : ℕ) (fs : List Frame) → n < length fs → true ≡ is_some_frame (drop n fs)
some-drop n [] h = absurd (omega (arith, h))
some-drop zero (f ∷ fs) h = refl
some-drop (suc n) (f ∷ fs) h = some-drop n fs (omega (arith, h))

pub end-drop : (n : ℕ) (fs : List Frame) → length fs ≤ n → drop n fs ≡ []
end-drop n fs h = drop_of_length-le fs h

pub some-at : (n m : ℕ) (fs : List Frame) → m ≡ length fs → nat_lt n m ≡ is_some_frame (drop n fs)
some-at n m fs is =
    elim (lt_or_le n (length fs)) [
      | inl h ↦ (let e : nat_lt n m ≡ true = grind (arith, nat_tests) in e) ∙ some-drop n fs h
      | inr h ↦ (let e : nat_lt n m ≡ false = grind (arith, nat_tests) in e) ∙ sym (ap is_some_frame (end-drop n fs h))
    ]

pub first-drop : (n : ℕ) (fs : List Frame) → slice_get (drop n fs) 0 ≡ slice_get fs n
first-drop zero [] = refl
first-drop (suc n) [] = refl
first-drop zero (f ∷ fs) = refl
first-drop (suc n) (f ∷ fs) = first-drop n fs

pub drop-here : (n : ℕ) (fs : List Frame) (f : Frame) → Some f ≡ slice_get fs n → drop n fs ≡ f ∷ drop (n + 1) fs
drop-here n [] f is = absurd (cc)
drop-here zero (g ∷ fs) f is = let e : g ≡ f = cc in ap (λ (h : Frame). h ∷ fs) e
drop-here (suc n) (g ∷ fs) f is =
    let count : suc n + 1 ≡ suc (n + 1) = omega arith in
    drop-here n fs f is ∙ ap (λ m. f ∷ drop m (g ∷ fs)) (sym count)

pub drop-none : (n : ℕ) (fs : List Frame) → None ≡ slice_get fs n → drop n fs ≡ []
drop-none n [] is = end-drop n [] (omega arith)
drop-none zero (f ∷ fs) is = absurd (cc)
drop-none (suc n) (f ∷ fs) is = drop-none n fs is

-- ---- the nearest frame

pub base_value-of : (fs : List Frame) (f : Frame) → Some f ≡ slice_get fs 0 → f.base_value ≡ base_value_at fs
base_value-of [] f is = absurd (cc)
base_value-of (g ∷ fs) f is = let e : f ≡ g = cc in ap (λ (h : Frame). h.base_value) e

pub base_value-none : (fs : List Frame) → None ≡ slice_get fs 0 → None ≡ base_value_at fs
base_value-none [] is = refl
base_value-none (f ∷ fs) is = absurd (cc)

pub bound-of : (fs : List Frame) (f : Frame) (name : Text) → Some f ≡ slice_get fs 0 → f.bound name ≡ bound_at fs name
bound-of [] f name is = absurd (cc)
bound-of (g ∷ fs) f name is = let e : f ≡ g = cc in ap (λ (h : Frame). h.bound name) e

pub bound-none : (fs : List Frame) (name : Text) → None ≡ slice_get fs 0 → None ≡ bound_at fs name
bound-none [] name is = refl
bound-none (f ∷ fs) name is = absurd (cc)

pub variable-of : (fs : List Frame) (f : Frame) (name : Text) → Some f ≡ slice_get fs 0 → f.variable name ≡ nearest_variables fs name
variable-of [] f name is = absurd (cc)
variable-of (g ∷ fs) f name is = let e : f ≡ g = cc in ap (λ (h : Frame). h.variable name) e

pub variables-none : (fs : List Frame) (name : Text) → None ≡ slice_get fs 0 → None ≡ nearest_variables fs name
variables-none [] name is = refl
variables-none (f ∷ fs) name is = absurd (cc)

pub names-of : (fs : List Frame) (f : Frame) → Some f ≡ slice_get fs 0 → f.base_path ≡ names_at fs
names-of [] f is = absurd (cc)
names-of (g ∷ fs) f is = let e : f ≡ g = cc in ap (λ (h : Frame). h.base_path) e

pub names-none : (fs : List Frame) → None ≡ slice_get fs 0 → names_at fs ≡ []
names-none [] is = refl
names-none (f ∷ fs) is = absurd (cc)

-- ---- so many frames out

pub variable-up : (fs gs : List Frame) (level : ℕ) (name : Text) → Some gs ≡ frames_up fs level
    → variable_at fs level name ≡ nearest_variables gs name
variable-up [] gs level name is = absurd (cc)
variable-up (f ∷ fs) gs zero name is = let e : gs ≡ f ∷ fs = cc in rw e refl
variable-up (f ∷ fs) gs (suc level) name is = variable-up fs gs level name is

pub variable-none : (fs : List Frame) (level : ℕ) (name : Text) → None ≡ frames_up fs level → variable_at fs level name ≡ None
variable-none [] level name is = refl
variable-none (f ∷ fs) zero name is = absurd (cc)
variable-none (f ∷ fs) (suc level) name is = variable-none fs level name is

-- ---- resolutions

first-resolution : (recursive : Bool) (fs : List Frame) (segments : List Segment)
    → with_or (slice_get fs 0) (λ f. resolution_in recursive f segments) (along (names_of segments)) ≡ nearest_resolution recursive fs segments
first-resolution recursive [] segments = refl
first-resolution recursive (f ∷ fs) segments = refl

up-first : (fs gs : List Frame) (n : ℕ) → Some gs ≡ frames_up fs n
    → (g : Frame) × (hs : List Frame) × (gs ≡ g ∷ hs) × (slice_get fs n ≡ Some g)
up-first [] gs n is = absurd (cc)
up-first (f ∷ fs) gs zero is = (f, fs, (let e : gs ≡ f ∷ fs = cc in e), refl)
up-first (f ∷ fs) gs (suc n) is = up-first fs gs n is

up-missing : (fs : List Frame) (n : ℕ) → None ≡ frames_up fs n → slice_get fs n ≡ None
up-missing [] n is = refl
up-missing (f ∷ fs) zero is = absurd (cc)
up-missing (f ∷ fs) (suc n) is = up-missing fs n is

up-some-resolution : (recursive : Bool) (fs gs : List Frame) (n : ℕ) (segments : List Segment) → Some gs ≡ frames_up fs n
    → with_or (frame_up fs n) (λ f. resolution_in recursive f segments) (along (names_of segments)) ≡ nearest_resolution recursive gs segments
up-some-resolution recursive fs gs n segments is =
    let found = up-first fs gs n is in
    ap (λ o. with_or (or_else o (slice_get fs 0)) (λ f. resolution_in recursive f segments) (along (names_of segments))) found.3
    ∙ sym (ap (λ hs. nearest_resolution recursive hs segments) found.2)

up-none-resolution : (recursive : Bool) (fs : List Frame) (n : ℕ) (segments : List Segment) → None ≡ frames_up fs n
    → with_or (frame_up fs n) (λ f. resolution_in recursive f segments) (along (names_of segments)) ≡ nearest_resolution recursive fs segments
up-none-resolution recursive fs n segments is = rw (up-missing fs n is) (first-resolution recursive fs segments)

pub unbound-up : (recursive : Bool) (fs gs : List Frame) (n : ℕ) (segments : List Segment) → is_from_root segments ≡ false → n ≡ ups_in segments
    → Some gs ≡ frames_up fs n → nearest_resolution recursive gs segments ≡ unbound_resolution recursive fs segments
unbound-up recursive fs gs n segments not_root is found = rw (not_root, ← is) (sym (up-some-resolution recursive fs gs n segments found))

pub unbound-nearest : (recursive : Bool) (fs : List Frame) (n : ℕ) (segments : List Segment) → is_from_root segments ≡ false → n ≡ ups_in segments
    → None ≡ frames_up fs n → nearest_resolution recursive fs segments ≡ unbound_resolution recursive fs segments
unbound-nearest recursive fs n segments not_root is none = rw (not_root, ← is) (sym (up-none-resolution recursive fs n segments none))

pub unbound-up-or-nearest : (recursive : Bool) (fs gs : List Frame) (n : ℕ) (segments : List Segment) → is_from_root segments ≡ false
    → n ≡ ups_in segments → gs ≡ frames_up_or_nearest fs n → nearest_resolution recursive gs segments ≡ unbound_resolution recursive fs segments
unbound-up-or-nearest recursive fs gs n segments not_root is same =
    let go : (o : Option (List Frame)) → o ≡ frames_up fs n
    → nearest_resolution recursive (with_or o (λ hs. hs) fs) segments ≡ unbound_resolution recursive fs segments =
    elim [
      | None ↦ λ none. unbound-nearest recursive fs n segments not_root is none
      | Some hs ↦ λ found. unbound-up recursive fs hs n segments not_root is found
    ] in
    ap (λ hs. nearest_resolution recursive hs segments) same ∙ go (frames_up fs n) refl

pub up-none-out : (fs : List Frame) (n : ℕ) → n ≡ 0 → fs ≡ frames_up_or_nearest fs n
up-none-out [] n is = refl
up-none-out (f ∷ fs) n is = rw is refl

-- the nearest frame has a value, or it has none
pub resolution-value : (recursive : Bool) (fs : List Frame) (segments : List Segment) (d : Data) → Some d ≡ base_value_at fs
    → in_block_value d (names_of segments) ≡ nearest_resolution recursive fs segments
resolution-value recursive [] segments d is = absurd (cc)
resolution-value recursive (f ∷ fs) segments d is = rw (← is) refl

-- ---- bound names
