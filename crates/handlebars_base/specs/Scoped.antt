-- A value with its origin.
use Rattle.std.specs.Prelude.{Bool, true, false, List, map, string_bytes, Option, Some, None}
use Rattle.handlebars_base.specs.Bytes.{Text}
use Rattle.serde_json.specs.Data.{Data, null}
use Rattle.serde_json.specs.View.{view}
use Rattle.handlebars_base.specs.declared.json.value.ScopedJson.{ScopedJson}
use Rattle.handlebars_base.specs.declared.json.value.ScopedJson.TheVariants.{Constant, Derived, Context, Missing}

-- a value that was reached from the data, with its full path; another value; or none
pub data Found : Type 0 where
  walked : Data → List Text → Found
  value : Data → Found
  missing : Found

abbrev pub found_of : ScopedJson → Found
found_of (Constant v) = value (view v.now)
found_of (Derived v) = value (view v)
found_of (Context v path) = walked (view v.now) (map string_bytes path.items)
found_of Missing = missing

-- the value, if there is one
abbrev pub present_in : Found → Option Data
present_in (walked d path) = Some d
present_in (value d) = Some d
present_in missing = None

-- the value; a missing one counts as null
abbrev pub data_in : Found → Data
data_in (walked d path) = d
data_in (value d) = d
data_in missing = null

abbrev pub path_in : Found → Option (List Text)
path_in (walked d path) = Some path
path_in (value d) = None
path_in missing = None

-- the value that it owns, if it doesn't borrow one
abbrev pub derived_in : ScopedJson → Option Data
derived_in (Derived v) = Some (view v)
derived_in s = None

-- whether it refers to a value of the template
abbrev pub is_constant : ScopedJson → Bool
is_constant (Constant v) = true
is_constant s = false
