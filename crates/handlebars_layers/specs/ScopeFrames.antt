-- The scope frames of a run: layers, with the partials that decorators set in them, by the depth of each layer.
use Rattle.std.specs.Prelude.{◌≡◌, ◌<◌, ◌≤◌, ◌++◌, ℕ, suc, Bool, List, [], ◌∷◌, Option, Some}
use Rattle.serde_json.specs.Data.{Data}
use Rattle.handlebars_base.specs.Bytes.{Text}
use Rattle.handlebars_base.specs.Path.{Reference}
use Rattle.handlebars_template.specs.Tree.{Tree}
use Rattle.handlebars_scope.specs.Resolve.{or_else, resolve}
use Rattle.handlebars_scope.specs.Scopes.{Frame, at_path, at_value, nothing_at, put_at}
use Rattle.handlebars_semantics.specs.State.{nearest_as, nearest_variables, outer_frames, partial_in, with_partial}
use Rattle.handlebars_layers.specs.NearestPartial.{nearest_partial}
use Rattle.handlebars_layers.specs.Chain.{Chain, LayerKind, frame_layer, frames, frames_outside, names_from, no_layer, node_layer, outer_chain, outside, kind_frame, kind_names, value_layer}

-- the partials of frames by the depth of each
abbrev pub ByDepth : Type 0
ByDepth = ℕ → Text → Option Tree

-- The depth of a layer: how many layers there are from the outside to it. The nearest frame from outside has the depth 0.
abbrev pub layer_depth : Chain → ℕ
layer_depth no_layer = 0
layer_depth (outside fs) = 0
layer_depth (node_layer d start n names kind outer) = suc (layer_depth outer)
layer_depth (value_layer d kind outer) = suc (layer_depth outer)
layer_depth (frame_layer f outer) = suc (layer_depth outer)

-- the frame, with these partials
abbrev pub set_partials : (Text → Option Tree) → Frame → Frame
set_partials partial f = record f { partial = partial }

-- the frames from outside: the nearest one with the partials of the depth 0, and the further ones with their own
abbrev pub scope_frames_outside : ByDepth → List Frame → List Frame
scope_frames_outside at fs = nearest_as (set_partials (at 0)) fs

-- The frames, each with the partials of its depth. Further frames from outside have their own.
abbrev pub scope_frames : ByDepth → Chain → List Frame
scope_frames at no_layer = []
scope_frames at (outside fs) = scope_frames_outside at fs
scope_frames at (node_layer d start n names kind outer) =
    set_partials (at (suc (layer_depth outer))) (kind_frame (at_path (names_from start n (names ++ kind_names kind))) kind (frames outer))
    ∷ scope_frames at outer
scope_frames at (value_layer d kind outer) =
    set_partials (at (suc (layer_depth outer))) (kind_frame (at_value d) kind (frames outer)) ∷ scope_frames at outer
scope_frames at (frame_layer f outer) = set_partials (at (suc (layer_depth outer))) f ∷ scope_frames at outer

-- the frames from outside but the nearest one
abbrev pub further_frames : List Frame → List Frame
further_frames [] = []
further_frames (f ∷ fs) = fs

-- ---- laws

-- What paths lead to doesn't depend on partials, nor do variables.
abbrev pub IgnorePartials : ByDepth → Chain → Type 0
IgnorePartials at c = (recursive : Bool) (r : Reference) (d : Data) → resolve recursive (scope_frames at c) r d ≡ resolve recursive (frames c) r d

abbrev pub VariablesIgnorePartials : ByDepth → Chain → Type 0
VariablesIgnorePartials at c = nearest_variables (scope_frames at c) ≡ nearest_variables (frames c)

-- The partial of a name is that of the nearest layer that has one, or else that of a frame from outside.
abbrev pub FindsByDepth : ByDepth → Chain → Type 0
FindsByDepth at c = (name : Text)
    → partial_in (scope_frames at c) name
    ≡ or_else (nearest_partial at (layer_depth c) name) (partial_in (scope_frames_outside at (frames_outside c)) name)

-- A partial that is set at the depth of a layer is set in its frame.
abbrev pub SetsByDepth : ByDepth → ByDepth → Chain → Text → Tree → Type 0
SetsByDepth new old c name t = ((d : ℕ) → d < layer_depth c → new d ≡ old d) → new (layer_depth c) ≡ put_at name t (old (layer_depth c))
    → scope_frames new c ≡ nearest_as (with_partial name t) (scope_frames old c)

-- A layer that is entered from this one has no partial, and the frames around it are as they were: a layer at a value of the
-- data, at a value that has no path, or of a frame that a user-defined helper made, without the partials that it had.
pub record IsEntered (new : ByDepth) (old : ByDepth) (c : Chain) : Type 0 where
  pub around : scope_frames new c ≡ scope_frames old c
  pub node : (v : Data) (start : Chain) (n : ℕ) (names : List Text) (kind : LayerKind)
      → scope_frames new (node_layer v start n names kind c)
      ≡ kind_frame (at_path (names_from start n (names ++ kind_names kind))) kind (scope_frames old c) ∷ scope_frames old c
  pub value : (v : Data) (kind : LayerKind)
      → scope_frames new (value_layer v kind c) ≡ kind_frame (at_value v) kind (scope_frames old c) ∷ scope_frames old c
  pub made : (f : Frame) → scope_frames new (frame_layer f c) ≡ set_partials nothing_at f ∷ scope_frames old c

-- If nothing is set at the next depth and nothing changed up to this one, a layer is entered.
abbrev pub EntersWithNone : ByDepth → ByDepth → Chain → Type 0
EntersWithNone new old c = ((d : ℕ) → d ≤ layer_depth c → new d ≡ old d) → new (suc (layer_depth c)) ≡ nothing_at → IsEntered new old c

-- The layer of a frame that is entered has the partials of its depth.
abbrev pub EntersFrame : ByDepth → ByDepth → Chain → Frame → Type 0
EntersFrame new old c f = ((d : ℕ) → d ≤ layer_depth c → new d ≡ old d)
    → scope_frames new (frame_layer f c) ≡ set_partials (new (suc (layer_depth c))) f ∷ scope_frames old c

-- Without the nearest frame, those of a layer are the frames of the layer around it.
abbrev pub LeavesOuter : ByDepth → Chain → Chain → Type 0
LeavesOuter at c outer = outer_chain c ≡ Some outer → outer_frames (scope_frames at c) ≡ scope_frames at outer
