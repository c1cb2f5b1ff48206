-- Frames by their number, nearest first.
use Rattle.std.specs.Prelude.{ℕ, zero, suc, Bool, true, false, List, [], ◌∷◌, Option, Some, None}
use Rattle.handlebars_base.specs.Bytes.{Text}
use Rattle.serde_json.specs.Data.{Data, null, boolean, number, string, array, object}
use Rattle.handlebars_base.specs.Optional.{with_or}
use Rattle.handlebars_base.specs.Path.{Segment}
use Rattle.handlebars_scope.specs.Resolve.{Resolution, along, names_of, resolution_from, resolution_in, resolution_of_bound, single_plain_name}
use Rattle.handlebars_scope.specs.Scopes.{Bound, Frame}
use Rattle.handlebars_semantics.specs.State.{nearest_variables}
use Rattle.handlebars_layers.specs.Chain.{names_at}

abbrev pub is_some_frame : List Frame → Bool
is_some_frame [] = false
is_some_frame (f ∷ fs) = true

-- the frames around the nearest one, if there is one
abbrev pub frames_around : List Frame → Option (List Frame)
frames_around [] = None
frames_around (f ∷ fs) = Some fs

-- the frames from the one this many frames out, if there is one
abbrev pub frames_up : List Frame → ℕ → Option (List Frame)
frames_up [] n = None
frames_up (f ∷ fs) zero = Some (f ∷ fs)
frames_up (f ∷ fs) (suc n) = frames_up fs n

-- the frames from the one this many frames out, or all of them if there is no such frame
abbrev pub frames_up_or_nearest : List Frame → ℕ → List Frame
frames_up_or_nearest fs n = with_or (frames_up fs n) (λ gs. gs) fs

-- what the nearest frame binds a name to
abbrev pub bound_at : List Frame → Text → Option Bound
bound_at [] name = None
bound_at (f ∷ fs) name = f.bound name

-- the value that paths lead from in the nearest frame, if it has one
abbrev pub base_value_at : List Frame → Option Data
base_value_at [] = None
base_value_at (f ∷ fs) = f.base_value

-- the variable that was found, if the layer has variables of its own; or else that of the frames around it
abbrev pub or_outer : Option (Option Data) → List Frame → Text → Option Data
or_outer (Some found) fs name = found
or_outer None fs name = nearest_variables fs name

-- ---- resolutions

-- the resolution by what the nearest frame binds a name to and by the segments after the name
abbrev pub nearest_bound_resolution : List Frame → Bound → List Segment → Resolution
nearest_bound_resolution fs b rest = resolution_of_bound (names_at fs) b rest

-- the resolution of segments in the nearest frame, or without any frame
abbrev pub nearest_resolution : Bool → List Frame → List Segment → Resolution
nearest_resolution recursive [] segments = along (names_of segments)
nearest_resolution recursive (f ∷ fs) segments = resolution_in recursive f segments

-- the resolution along the base path of the nearest frame, or without any frame
abbrev pub path_resolution : Bool → List Frame → List Segment → Resolution
path_resolution recursive [] segments = along (names_of segments)
path_resolution recursive (f ∷ fs) segments = resolution_from recursive f.base_path segments (single_plain_name segments)

-- the value has no members
abbrev pub is_scalar : Data → Bool
is_scalar null = true
is_scalar (boolean b) = true
is_scalar (number n) = true
is_scalar (string s) = true
is_scalar (array ds) = false
is_scalar (object ms) = false
