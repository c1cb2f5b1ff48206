-- Layers of scope: scope frames, and where in the data each of them is.
use Rattle.std.specs.Prelude.{◌≡◌, ℕ, Bool, true, false, List, [], ◌∷◌, ◌++◌, Option, Some, None, drop}
use Rattle.std.specs.Coded.{Unit-prop}
use mathlib.Core.HLevel.{⊥_prop, ×₃_prop}
use Rattle.serde_json.specs.Data.{Data, null}
use Rattle.handlebars_base.specs.Answers.{Answer, gives, fails}
use Rattle.handlebars_base.specs.Bytes.{Text}
use Rattle.handlebars_scope.specs.Resolve.{value_at}
use Rattle.handlebars_scope.specs.Scopes.{Base, Bound, Frame, at_path, at_value, bound_base, bound_value, empty_frame, frame_at, nothing_at}
use Rattle.handlebars_helpers.specs.Iterations.{Iteration, bind_both, bind_one, iteration_key, iteration_name, iteration_variables}
use Rattle.handlebars_semantics.specs.Inclusion.{with_bound}
use Rattle.handlebars_semantics.specs.State.{nearest_variables}
use Rattle.handlebars_layers.specs.DataSet.{Data-set}

-- the names that a block binds: none; one, to its value; or one to its value and one to its index or key
pub data BlockNames : Type 0 where
  unnamed : BlockNames
  one : Text → BlockNames
  two : Text → Text → BlockNames

-- What a layer is made for: it is an iteration of this index and key, the last one or not, with the names that it binds; or
-- it is the frame of `with`, with the name that it binds; or that of a partial call, with its hash arguments.
pub data LayerKind : Type 0 where
  iteration_layer : ℕ → Option Text → Bool → BlockNames → LayerKind
  with_layer : BlockNames → LayerKind
  partial_layer : List (Text × Data) → LayerKind

-- A frame, and those around it: no frame; the frames from outside; a frame at a value of the data, to which names lead from
-- the frame this many frames out of another layer; a frame at a value that has no path; or a frame as it was made.
pub data Chain : Type 0 where
  no_layer : Chain
  outside : List Frame → Chain
  node_layer : Data → Chain → ℕ → List Text → LayerKind → Chain → Chain
  value_layer : Data → LayerKind → Chain → Chain
  frame_layer : Frame → Chain → Chain

-- ---- the frames

-- the iteration of an index and a key, over some member
abbrev pub iteration : ℕ → Option Text → Bool → Iteration
iteration i key last = record { index = i; key = key; last = last; member = null }

-- the name of an iteration's member
abbrev pub kind_names : LayerKind → List Text
kind_names (iteration_layer i key last names) = iteration_name (iteration i key last) ∷ []
kind_names (with_layer names) = []
kind_names (partial_layer hs) = []

-- what names are bound to, for a value of this index or key
abbrev pub block_bound : BlockNames → Bound → Data → Text → Option Bound
block_bound unnamed b key = nothing_at
block_bound (one name) b key = bind_one (Some name) b
block_bound (two first second) b key = bind_both (Some (first, second)) b (bound_value key)

-- the name of the value alone
abbrev pub value_bound : BlockNames → Bound → Text → Option Bound
value_bound unnamed b = nothing_at
value_bound (one name) b = bind_one (Some name) b
value_bound (two first second) b = nothing_at

abbrev pub kind_bound : LayerKind → Base → Text → Option Bound
kind_bound (iteration_layer i key last names) base = block_bound names (bound_base base) (iteration_key (iteration i key last))
kind_bound (with_layer names) base = value_bound names (bound_base base)
kind_bound (partial_layer hs) base = with_bound hs nothing_at

-- the variables of an iteration, or else those of the frames around
abbrev pub kind_variables : LayerKind → List Frame → Text → Option Data
kind_variables (iteration_layer i key last names) fs = iteration_variables (iteration i key last) nothing_at
kind_variables (with_layer names) fs = nearest_variables fs
kind_variables (partial_layer hs) fs = nearest_variables fs

-- the frame of a layer at a base, within others
abbrev pub kind_frame : Base → LayerKind → List Frame → Frame
kind_frame base kind fs = record (frame_at base empty_frame) { bound = kind_bound kind base; variable = kind_variables kind fs }

-- the base path of the nearest frame; without any frame paths lead from the data
abbrev pub names_at : List Frame → List Text
names_at [] = []
names_at (f ∷ fs) = f.base_path

-- the frames this many frames out of a layer; only frames from outside are counted
abbrev pub skip : Chain → ℕ → List Frame → List Frame
skip no_layer n fs = fs
skip (outside gs) n fs = drop n fs
skip (node_layer d start m names kind outer) n fs = fs
skip (value_layer d kind outer) n fs = fs
skip (frame_layer f outer) n fs = fs

-- the frames of a layer, nearest first
abbrev pub frames : Chain → List Frame
frames no_layer = []
frames (outside fs) = fs
frames (node_layer d start n names kind outer) =
    kind_frame (at_path (names_at (skip start n (frames start)) ++ (names ++ kind_names kind))) kind (frames outer) ∷ frames outer
frames (value_layer d kind outer) = kind_frame (at_value d) kind (frames outer) ∷ frames outer
frames (frame_layer f outer) = f ∷ frames outer

abbrev pub frames_from : Chain → ℕ → List Frame
frames_from c n = skip c n (frames c)

-- the names of a value that is found from a layer on
abbrev pub names_from : Chain → ℕ → List Text → List Text
names_from c n names = names_at (frames_from c n) ++ names

-- it is the layer of no frame
abbrev pub is_no_layer : Chain → Bool
is_no_layer no_layer = true
is_no_layer (outside fs) = false
is_no_layer (node_layer d start n names kind outer) = false
is_no_layer (value_layer d kind outer) = false
is_no_layer (frame_layer f outer) = false

-- it is the layer of the frames from outside
abbrev pub is_outside : Chain → Bool
is_outside no_layer = false
is_outside (outside fs) = true
is_outside (node_layer d start n names kind outer) = false
is_outside (value_layer d kind outer) = false
is_outside (frame_layer f outer) = false

-- the frames from outside that are around a layer, nearest first
abbrev pub frames_outside : Chain → List Frame
frames_outside no_layer = []
frames_outside (outside fs) = fs
frames_outside (node_layer d start n names kind outer) = frames_outside outer
frames_outside (value_layer d kind outer) = frames_outside outer
frames_outside (frame_layer f outer) = frames_outside outer

-- the layer around this one, if a run entered this one
abbrev pub outer_chain : Chain → Option Chain
outer_chain no_layer = None
outer_chain (outside fs) = None
outer_chain (node_layer d start n names kind outer) = Some outer
outer_chain (value_layer d kind outer) = Some outer
outer_chain (frame_layer f outer) = Some outer

-- ---- the nodes

-- what names lead to is this value
abbrev pub IsValue : Answer (Option Data) → Data → Type 0
IsValue (gives (Some e)) v = e ≡ v
IsValue (gives None) v = ⊥
IsValue (fails r) v = ⊥

-- The value of each layer of the data is what the names of the layer lead to.
abbrev pub NodesAreThere : Data → Chain → Type 0
NodesAreThere d no_layer = Unit {0}
NodesAreThere d (outside fs) = Unit {0}
NodesAreThere d (node_layer v start n names kind outer) =
    IsValue (value_at d (names_from start n (names ++ kind_names kind))) v × NodesAreThere d start × NodesAreThere d outer
NodesAreThere d (value_layer v kind outer) = NodesAreThere d outer
NodesAreThere d (frame_layer f outer) = NodesAreThere d outer

pub IsValue-prop : (a : Answer (Option Data)) (v : Data) → IsProp (IsValue a v)
IsValue-prop (gives (Some e)) v = Data-set e v
IsValue-prop (gives None) v = ⊥_prop
IsValue-prop (fails r) v = ⊥_prop

pub NodesAreThere-prop : (d : Data) (c : Chain) → IsProp (NodesAreThere d c)
NodesAreThere-prop d no_layer = Unit-prop
NodesAreThere-prop d (outside fs) = Unit-prop
NodesAreThere-prop d (node_layer v start n names kind outer) =
    ×₃_prop (IsValue-prop (value_at d (names_from start n (names ++ kind_names kind))) v) (NodesAreThere-prop d start) (NodesAreThere-prop d outer)
NodesAreThere-prop d (value_layer v kind outer) = NodesAreThere-prop d outer
NodesAreThere-prop d (frame_layer f outer) = NodesAreThere-prop d outer
