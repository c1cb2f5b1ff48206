-- Whether frames bind names.
use Rattle.std.specs.Prelude.{◌≡◌, Bool, true, false, List, [], ◌∷◌, is_some}
use Rattle.std.specs.List.{Contains}
use Rattle.std.specs.Coded.{Coded-set, coded_bool, ×_prop, Unit-prop, Π_prop}
use Rattle.serde_json.specs.Data.{Data}
use Rattle.handlebars_base.specs.Bytes.{Text}
use Rattle.handlebars_scope.specs.Scopes.{Frame}
use Rattle.handlebars_layers.specs.Chain.{BlockNames, LayerKind, iteration_layer, one, partial_layer, two, unnamed, with_layer}

-- the frame binds no name
abbrev pub IsUnbound : Frame → Type 0
IsUnbound f = (name : Text) → is_some (f.bound name) ≡ false

-- If the answer is false, none of the frames binds a name.
abbrev pub MayBind : Bool → List Frame → Type 0
MayBind true fs = Unit {0}
MayBind false [] = Unit {0}
MayBind false (f ∷ fs) = IsUnbound f × MayBind false fs

-- One of the frames binds a name.
abbrev pub BindsSome : List Frame → Type 0
BindsSome fs = (f : Frame) × Contains fs f × (name : Text) × (is_some (f.bound name) ≡ true)

IsUnbound-prop : (f : Frame) → IsProp (IsUnbound f)
IsUnbound-prop f = Π_prop λ name. Coded-set coded_bool (is_some (f.bound name)) false

pub MayBind-prop : (b : Bool) (fs : List Frame) → IsProp (MayBind b fs)
MayBind-prop true fs = Unit-prop
MayBind-prop false [] = Unit-prop
MayBind-prop false (f ∷ fs) = ×_prop (IsUnbound-prop f) (MayBind-prop false fs)

-- whether a block binds a name
abbrev pub binds_names : BlockNames → Bool
binds_names unnamed = false
binds_names (one name) = true
binds_names (two first second) = true

abbrev pub is_some_value : List (Text × Data) → Bool
is_some_value [] = false
is_some_value (h ∷ hs) = true

-- whether a layer of this kind may bind a name
abbrev pub kind_binds : LayerKind → Bool
kind_binds (iteration_layer i key last names) = binds_names names
kind_binds (with_layer names) = binds_names names
kind_binds (partial_layer hs) = is_some_value hs
