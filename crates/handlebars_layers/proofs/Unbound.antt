-- Frames that bind no name.
use Rattle.std.proofs.Common.{◌≡◌, ℕ, zero, suc, Bool, true, false, List, [], ◌∷◌, Option, Some, None, drop, refl, sym, ap, ◌∙◌}
use Rattle.std.proofs.lemmas.List.Elements.{Contains-append_left, Contains-append_right, Contains-push}
use Rattle.std.specs.Prelude.{is_some, option_map}
use Rattle.serde_json.specs.Data.{Data}
use Rattle.handlebars_base.specs.Bytes.{Text}
use Rattle.handlebars_base.specs.Optional.{with_or}
use Rattle.handlebars_base.specs.Path.{Segment, local, named, root, up}
use Rattle.handlebars_scope.specs.Resolve.{after_ups, bound_resolution, found_by, navigate, or_else, resolution_of_bound, resolution_of_name, unbound_resolution}
use Rattle.handlebars_scope.specs.Scopes.{Bound, Frame, nothing_at}
use Rattle.handlebars_layers.specs.Binding.{BindsSome, IsUnbound, MayBind, binds_names}
use Rattle.handlebars_layers.specs.Chain.{BlockNames, Chain, frame_layer, frames, no_layer, node_layer, one, outside, skip, two, unnamed, value_bound, value_layer}

-- ---- frames

pub unbound-drop : (n : ℕ) (fs : List Frame) → MayBind false fs → MayBind false (drop n fs)
unbound-drop zero fs unbound = unbound
unbound-drop (suc n) [] unbound = unbound
unbound-drop (suc n) (f ∷ fs) unbound = unbound-drop n fs unbound.1

pub unbound-skip : (c : Chain) (n : ℕ) → MayBind false (frames c) → MayBind false (skip c n (frames c))
unbound-skip no_layer n unbound = unbound
unbound-skip (outside fs) n unbound = unbound-drop n fs unbound
unbound-skip (node_layer d start m names kind outer) n unbound = unbound
unbound-skip (value_layer d kind outer) n unbound = unbound
unbound-skip (frame_layer f outer) n unbound = unbound

none-of : {X : Type 0} (o : Option X) → is_some o ≡ false → o ≡ None
none-of None is = refl
none-of (Some x) is = absurd (cc)

name-unbound : (fs : List Frame) (name : Text) (rest : List Segment) → MayBind false fs → resolution_of_name fs name rest ≡ None
name-unbound [] name rest unbound = refl
name-unbound (f ∷ fs) name rest unbound =
    ap (λ o. or_else (option_map (λ b. resolution_of_bound f.base_path b rest) o) (resolution_of_name fs name rest))
    (none-of (f.bound name) (unbound.0 name))
    ∙ name-unbound fs name rest unbound.1

-- if no frame binds a name, no path begins with a bound one
pub resolution-unbound : (fs : List Frame) (segments : List Segment) → MayBind false fs → bound_resolution fs segments ≡ None
resolution-unbound fs [] unbound = refl
resolution-unbound fs (named n ∷ rest) unbound = name-unbound fs n rest unbound
resolution-unbound fs (root ∷ rest) unbound = refl
resolution-unbound fs (local ∷ rest) unbound = refl
resolution-unbound fs (up ∷ rest) unbound = refl

-- a name that the first frame binds, or one of the others
pub first-binds : (f : Frame) (fs : List Frame) → (name : Text) × (is_some (f.bound name) ≡ true) → BindsSome (f ∷ fs)
first-binds f fs bound = (f, Contains-append_left (f ∷ []) fs f (Contains-push [] f), bound.0, bound.1)

pub rest-binds : (f : Frame) (fs : List Frame) → BindsSome fs → BindsSome (f ∷ fs)
rest-binds f fs some = (some.0, Contains-append_right (f ∷ []) fs some.0 some.1, some.2, some.3)

-- a frame whose bindings are none binds no name
pub nothing-bound : (f : Frame) → f.bound ≡ nothing_at → IsUnbound f
nothing-bound f is name = ap (λ (bound : Text → Option Bound). is_some (bound name)) is

-- so without recursive lookup the resolution is that of an unbound name
pub navigate-unbound : (recursive : Bool) (fs : List Frame) (segments : List Segment) (d : Data) → recursive ≡ false → MayBind false fs
    → found_by (unbound_resolution false fs segments) d ≡ navigate recursive fs segments d
navigate-unbound recursive fs segments d is unbound =
    sym (λ i. found_by (with_or (resolution-unbound fs (after_ups segments) unbound i) (λ r. r) (unbound_resolution (is i) fs segments)) d)

-- ---- layers

value-unbound : (names : BlockNames) (b : Bound) (name : Text) → binds_names names ≡ false → is_some (value_bound names b name) ≡ false
value-unbound unnamed b name is = refl
value-unbound (one first) b name is = absurd (cc)
value-unbound (two first second) b name is = absurd (cc)

-- ---- the layers of a run
