-- Scope frames, nearest first, and what each of them contains.
use Rattle.std.specs.Prelude.{List, [], Option, Some, None, cond}
use Rattle.std.specs.Str.{bytes_eq}
use Rattle.serde_json.specs.Data.{Data, null}
use Rattle.handlebars_base.specs.Bytes.{Text}
use Rattle.handlebars_base.specs.Scoped.{Found, walked, value, missing}
use Rattle.handlebars_template.specs.Tree.{Tree}

-- ---- maps by name

abbrev pub nothing_at : {X : Type 0} → Text → Option X
nothing_at name = None

-- the map with this value under the name, replacing any other
abbrev pub put_at : {X : Type 0} → Text → X → (Text → Option X) → Text → Option X
put_at name x map other = cond (bytes_eq name other) (Some x) (map other)

-- ---- blocks

-- what a block binds a name to: a path below its own base path, or a value that has no path
pub data Bound : Type 0 where
  bound_path : List Text → Bound
  bound_value : Data → Bound

-- a scope frame: its base path, its base value, if one was set, and its maps by name: what names are bound to, the block's
-- variables, and its local partials
pub record Frame : Type 0 where
  pub base_path : List Text
  pub base_value : Option Data
  pub bound : Text → Option Bound
  pub variable : Text → Option Data
  pub partial : Text → Option Tree

abbrev pub empty_frame : Frame
empty_frame = record {
  base_path = [];
  base_value = None;
  bound = nothing_at;
  variable = nothing_at;
  partial = nothing_at;
}

-- ---- bases

-- the base of a block: a path of the data, or a value that has no path
pub data Base : Type 0 where
  at_path : List Text → Base
  at_value : Data → Base

-- the base that a value makes; a missing one counts as null
abbrev pub base_of : Found → Base
base_of (walked d path) = at_path path
base_of (value d) = at_value d
base_of missing = at_value null

-- the block, at a base
abbrev pub frame_at : Base → Frame → Frame
frame_at (at_path path) f = record f { base_path = path }
frame_at (at_value d) f = record f { base_value = Some d }

-- what a name is bound to if it denotes the base of its own block
abbrev pub bound_base : Base → Bound
bound_base (at_path path) = bound_path []
bound_base (at_value d) = bound_value d
