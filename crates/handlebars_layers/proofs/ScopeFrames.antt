-- Partials by depth, and what doesn't depend on them.
use Rattle.std.proofs.Common.{◌≡◌, ◌≤◌, ◌++◌, ℕ, zero, suc, arith, Bool, true, false, List, [], ◌∷◌, Option, Some, None, map, refl, sym, ap, ◌∙◌}
use Rattle.std.specs.Prelude.{option_map, slice_get}
use Rattle.serde_json.specs.Data.{Data}
use Rattle.handlebars_base.specs.Bytes.{Text}
use Rattle.handlebars_base.specs.Optional.{with_or}
use Rattle.handlebars_base.specs.Path.{Reference, Segment, local, named, relative, root, up, variable}
use Rattle.handlebars_template.specs.Tree.{Tree}
use Rattle.handlebars_scope.specs.Resolve.{Resolution, after_ups, along, bound_resolution, found_by, found_within, frame_up, is_from_root, names_of, or_else, resolution_in, resolution_of, resolution_of_bound, resolution_of_name, resolve, unbound_resolution, ups_in, variable_at}
use Rattle.handlebars_base.specs.Answers.{gives}
use Rattle.handlebars_scope.specs.Scopes.{Base, Frame, at_path, at_value, empty_frame, frame_at, nothing_at, put_at}
use Rattle.handlebars_semantics.specs.State.{nearest_as, nearest_variables, partial_in, with_partial}
use Rattle.handlebars_layers.specs.ScopeFrames.{ByDepth, EntersFrame, EntersWithNone, FindsByDepth, IgnorePartials, LeavesOuter, SetsByDepth, VariablesIgnorePartials, layer_depth, scope_frames, scope_frames_outside, set_partials}
use Rattle.handlebars_layers.specs.NearestPartial.{nearest_partial}
use Rattle.handlebars_layers.specs.Chain.{Chain, LayerKind, frame_layer, frames, frames_outside, partial_layer, iteration_layer, names_from, with_layer, kind_bound, no_layer, node_layer, outside, kind_frame, kind_names, value_layer}

-- ---- frames that differ in their partials alone

abbrev bare : List Frame → List Frame
bare fs = map (set_partials nothing_at) fs

bare-nearest : (partial : Text → Option Tree) (fs : List Frame) → bare (nearest_as (set_partials partial) fs) ≡ bare fs
bare-nearest partial [] = refl
bare-nearest partial (f ∷ fs) = refl

bare-scope_frames : (at : ByDepth) (c : Chain) → bare (scope_frames at c) ≡ bare (frames c)
bare-scope_frames at no_layer = refl
bare-scope_frames at (outside fs) = bare-nearest (at 0) fs
bare-scope_frames at (node_layer d start n names kind outer) =
    let e = bare-scope_frames at outer in
    λ i. set_partials nothing_at (kind_frame (at_path (names_from start n (names ++ kind_names kind))) kind (frames outer)) ∷ e i
bare-scope_frames at (value_layer d kind outer) =
    let e = bare-scope_frames at outer in λ i. set_partials nothing_at (kind_frame (at_value d) kind (frames outer)) ∷ e i
bare-scope_frames at (frame_layer f outer) = let e = bare-scope_frames at outer in λ i. set_partials nothing_at f ∷ e i

-- ---- what paths lead to

name-bare : (fs : List Frame) (name : Text) (rest : List Segment) → resolution_of_name (bare fs) name rest ≡ resolution_of_name fs name rest
name-bare [] name rest = refl
name-bare (f ∷ fs) name rest =
    ap (or_else (option_map (λ b. resolution_of_bound f.base_path b rest) (f.bound name))) (name-bare fs name rest)

bound-bare : (fs : List Frame) (segments : List Segment) → bound_resolution (bare fs) segments ≡ bound_resolution fs segments
bound-bare fs [] = refl
bound-bare fs (named n ∷ rest) = name-bare fs n rest
bound-bare fs (root ∷ rest) = refl
bound-bare fs (local ∷ rest) = refl
bound-bare fs (up ∷ rest) = refl

slice_get-bare : (fs : List Frame) (n : ℕ) → slice_get (bare fs) n ≡ option_map (set_partials nothing_at) (slice_get fs n)
slice_get-bare [] n = refl
slice_get-bare (f ∷ fs) zero = refl
slice_get-bare (f ∷ fs) (suc n) = slice_get-bare fs n

either-bare : (a b : Option Frame) (recursive : Bool) (segments : List Segment) (none : Resolution)
    → with_or (or_else (option_map (set_partials nothing_at) a) (option_map (set_partials nothing_at) b)) (λ f. resolution_in recursive f segments) none
    ≡ with_or (or_else a b) (λ f. resolution_in recursive f segments) none
either-bare (Some f) b recursive segments none = refl
either-bare None (Some f) recursive segments none = refl
either-bare None None recursive segments none = refl

frame_up-bare : (fs : List Frame) (n : ℕ) (recursive : Bool) (segments : List Segment) (none : Resolution)
    → with_or (frame_up (bare fs) n) (λ f. resolution_in recursive f segments) none
    ≡ with_or (frame_up fs n) (λ f. resolution_in recursive f segments) none
frame_up-bare fs n recursive segments none =
    (λ i. with_or (or_else (slice_get-bare fs n i) (slice_get-bare fs 0 i)) (λ f. resolution_in recursive f segments) none)
    ∙ either-bare (slice_get fs n) (slice_get fs 0) recursive segments none

from-bare : (b : Bool) (fs : List Frame) (recursive : Bool) (segments : List Segment) → is_from_root segments ≡ b
    → unbound_resolution recursive (bare fs) segments ≡ unbound_resolution recursive fs segments
from-bare true fs recursive segments is = rw (is) refl
from-bare false fs recursive segments is = rw (is) (frame_up-bare fs (ups_in segments) recursive segments (along (names_of segments)))

resolution-bare : (fs : List Frame) (recursive : Bool) (segments : List Segment)
    → resolution_of recursive (bare fs) segments ≡ resolution_of recursive fs segments
resolution-bare fs recursive segments = λ i.
    with_or (bound-bare fs (after_ups segments) i) (λ resolution. resolution)
    (from-bare (is_from_root segments) fs recursive segments refl i)

variable-bare : (fs : List Frame) (level : ℕ) (name : Text) → variable_at (bare fs) level name ≡ variable_at fs level name
variable-bare [] level name = refl
variable-bare (f ∷ fs) zero name = refl
variable-bare (f ∷ fs) (suc level) name = variable-bare fs level name

resolve-bare : (fs : List Frame) (recursive : Bool) (r : Reference) (d : Data) → resolve recursive (bare fs) r d ≡ resolve recursive fs r d
resolve-bare fs recursive (relative segments text) d = ap (λ resolution. found_by resolution d) (resolution-bare fs recursive segments)
resolve-bare fs recursive (variable level name text) d = ap (λ v. gives (found_within v)) (variable-bare fs level name)

pub ignore-partials : (at : ByDepth) (c : Chain) → IgnorePartials at c
ignore-partials at c = λ recursive r d.
    sym (resolve-bare (scope_frames at c) recursive r d)
    ∙ ap (λ fs. resolve recursive fs r d) (bare-scope_frames at c) ∙ resolve-bare (frames c) recursive r d

nearest-variables : (partial : Text → Option Tree) (fs : List Frame)
    → nearest_variables (nearest_as (set_partials partial) fs) ≡ nearest_variables fs
nearest-variables partial [] = refl
nearest-variables partial (f ∷ fs) = refl

pub variables-ignore-partials : (at : ByDepth) (c : Chain) → VariablesIgnorePartials at c
variables-ignore-partials at no_layer = refl
variables-ignore-partials at (outside fs) = nearest-variables (at 0) fs
variables-ignore-partials at (node_layer d start n names kind outer) = refl
variables-ignore-partials at (value_layer d kind outer) = refl
variables-ignore-partials at (frame_layer f outer) = refl

-- ---- the partial of a name

or_else-assoc : {X : Type 0} (a b c : Option X) → or_else a (or_else b c) ≡ or_else (or_else a b) c
or_else-assoc None b c = refl
or_else-assoc (Some x) b c = refl

-- in a layer around which the partial is found by depth
finds-around : (at : ByDepth) (outer : Chain) (name : Text)
    → partial_in (scope_frames at outer) name
    ≡ or_else (nearest_partial at (layer_depth outer) name) (partial_in (scope_frames_outside at (frames_outside outer)) name)
    → or_else (at (suc (layer_depth outer)) name) (partial_in (scope_frames at outer) name)
    ≡ or_else (nearest_partial at (suc (layer_depth outer)) name) (partial_in (scope_frames_outside at (frames_outside outer)) name)
finds-around at outer name found =
    ap (or_else (at (suc (layer_depth outer)) name)) found
    ∙ or_else-assoc (at (suc (layer_depth outer)) name) (nearest_partial at (layer_depth outer) name)
    (partial_in (scope_frames_outside at (frames_outside outer)) name)

pub finds-by-depth : (at : ByDepth) (c : Chain) → FindsByDepth at c
finds-by-depth at no_layer = λ name. refl
finds-by-depth at (outside fs) = λ name. refl
finds-by-depth at (node_layer d start n names kind outer) = λ name. finds-around at outer name (finds-by-depth at outer name)
finds-by-depth at (value_layer d kind outer) = λ name. finds-around at outer name (finds-by-depth at outer name)
finds-by-depth at (frame_layer f outer) = λ name. finds-around at outer name (finds-by-depth at outer name)

-- ---- a partial is set

pub scope_frames-unchanged : (new old : ByDepth) (c : Chain) → ((d : ℕ) → d ≤ layer_depth c → new d ≡ old d) → scope_frames new c ≡ scope_frames old c
scope_frames-unchanged new old no_layer same = refl
scope_frames-unchanged new old (outside fs) same = ap (λ partial. nearest_as (set_partials partial) fs) (same 0 (omega arith))
scope_frames-unchanged new old (node_layer v start n names kind outer) same =
    let here = same (suc (layer_depth outer)) (omega arith) in
    let around = scope_frames-unchanged new old outer (λ d less. same d (omega arith)) in
    λ i. set_partials (here i) (kind_frame (at_path (names_from start n (names ++ kind_names kind))) kind (frames outer)) ∷ around i
scope_frames-unchanged new old (value_layer v kind outer) same =
    let here = same (suc (layer_depth outer)) (omega arith) in
    let around = scope_frames-unchanged new old outer (λ d less. same d (omega arith)) in
    λ i. set_partials (here i) (kind_frame (at_value v) kind (frames outer)) ∷ around i
scope_frames-unchanged new old (frame_layer f outer) same =
    let here = same (suc (layer_depth outer)) (omega arith) in
    let around = scope_frames-unchanged new old outer (λ d less. same d (omega arith)) in
    λ i. set_partials (here i) f ∷ around i

set-outside : (fs : List Frame) (new old : Text → Option Tree) (name : Text) (t : Tree) → new ≡ put_at name t old
    → nearest_as (set_partials new) fs ≡ nearest_as (with_partial name t) (nearest_as (set_partials old) fs)
set-outside [] new old name t is = refl
set-outside (f ∷ fs) new old name t is = λ i. set_partials (is i) f ∷ fs

pub sets-by-depth : (new old : ByDepth) (c : Chain) (name : Text) (t : Tree) → SetsByDepth new old c name t
sets-by-depth new old no_layer name t = λ same here_is. refl
sets-by-depth new old (outside fs) name t = λ same here_is. set-outside fs (new 0) (old 0) name t here_is
sets-by-depth new old (node_layer v start n names kind outer) name t = λ same here_is.
    let around = scope_frames-unchanged new old outer (λ d less. same d (omega arith)) in
    λ i. set_partials (here_is i) (kind_frame (at_path (names_from start n (names ++ kind_names kind))) kind (frames outer)) ∷ around i
sets-by-depth new old (value_layer v kind outer) name t = λ same here_is.
    let around = scope_frames-unchanged new old outer (λ d less. same d (omega arith)) in
    λ i. set_partials (here_is i) (kind_frame (at_value v) kind (frames outer)) ∷ around i
sets-by-depth new old (frame_layer f outer) name t = λ same here_is.
    let around = scope_frames-unchanged new old outer (λ d less. same d (omega arith)) in
    λ i. set_partials (here_is i) f ∷ around i

-- ---- a layer is entered

kind-variables : (base : Base) (kind : LayerKind) (at : ByDepth) (c : Chain) → kind_frame base kind (frames c) ≡ kind_frame base kind (scope_frames at c)
kind-variables base (iteration_layer i key last names) at c = refl
kind-variables base (with_layer names) at c =
    let e = variables-ignore-partials at c in
    λ i. record (frame_at base empty_frame) { bound = kind_bound (with_layer names) base; variable = sym e i }
kind-variables base (partial_layer hs) at c =
    let e = variables-ignore-partials at c in
    λ i. record (frame_at base empty_frame) { bound = kind_bound (partial_layer hs) base; variable = sym e i }

pub enters-with-none : (new old : ByDepth) (c : Chain) → EntersWithNone new old c
enters-with-none new old c = λ same none.
    let around = scope_frames-unchanged new old c same in
    record {
      around = around;
      node = λ v start n names kind.
          let path = at_path (names_from start n (names ++ kind_names kind)) in
          let own = kind-variables path kind old c in
          (λ i. set_partials (none i) (kind_frame path kind (frames c)) ∷ around i) ∙ (λ i. own i ∷ scope_frames old c);
      value = λ v kind.
          let own = kind-variables (at_value v) kind old c in
          (λ i. set_partials (none i) (kind_frame (at_value v) kind (frames c)) ∷ around i) ∙ (λ i. own i ∷ scope_frames old c);
      made = λ f i. set_partials (none i) f ∷ around i;
    }

pub enters-frame : (new old : ByDepth) (c : Chain) (f : Frame) → EntersFrame new old c f
enters-frame new old c f = λ same.
    let around = scope_frames-unchanged new old c same in
    λ i. set_partials (new (suc (layer_depth c))) f ∷ around i

-- ---- a layer is left

pub leaves-outer : (at : ByDepth) (c around : Chain) → LeavesOuter at c around
leaves-outer at no_layer around = λ is. absurd (cc)
leaves-outer at (outside fs) around = λ is. absurd (cc)
leaves-outer at (node_layer d start n names kind outer) around = λ is. let same : outer ≡ around = cc in ap (scope_frames at) same
leaves-outer at (value_layer d kind outer) around = λ is. let same : outer ≡ around = cc in ap (scope_frames at) same
leaves-outer at (frame_layer f outer) around = λ is. let same : outer ≡ around = cc in ap (scope_frames at) same
