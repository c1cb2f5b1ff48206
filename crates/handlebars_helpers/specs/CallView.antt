-- What a call passes to its helper, as plain data.
use Rattle.std.specs.Prelude.{ℕ, Bool, true, false, List, ◌++◌, map, Option, None, Some}
use Rattle.serde_json.specs.Data.{Data}
use Rattle.std.specs.List.{slice_get}
use Rattle.std.specs.Map.{lookup}
use Rattle.std.specs.Str.{bytes_eq}
use Rattle.handlebars_base.specs.Bytes.{Text}
use Rattle.handlebars_base.specs.PathAndData.{PathAndData}
use Rattle.handlebars_base.specs.Scoped.{value}
use Rattle.handlebars_base.specs.Optional.{◌>>=◌}
use Rattle.handlebars_template.specs.Tree.{Binding, no_binding, single, both, Body, Param, name}

-- The view of a call or of another tag: its name, the values of its parameters in order, and the values of its hash arguments
-- in order of key.
pub record CallView : Type 0 where
  pub name : Text
  pub params : List PathAndData
  pub hash : List (Text × PathAndData)

-- The view of a helper's call: the call, the names that it binds, its body and its inverse, and whether it is a block.
pub record HelperView : Type 0 where
  pub call : CallView
  pub binding : Binding
  pub body : Body
  pub inverse : Body
  pub block : Bool

-- the value of a parameter, counted from 0
abbrev pub param_at : ℕ → CallView → Option PathAndData
param_at i v = slice_get v.params i

-- the value of the hash argument with the key
abbrev pub hash_at : Text → CallView → Option PathAndData
hash_at key v = lookup (bytes_eq key) v.hash

-- whether the call has block parameters, be they names or not
abbrev pub has_block_params : Binding → Bool
has_block_params no_binding = false
has_block_params (single p) = true
has_block_params (both p q) = true

-- The name that a parameter binds. Only a hand-built template has other parameters here, and those bind nothing.
abbrev pub bound_name : Param → Option Text
bound_name (name n) = Some n
bound_name p = None

-- the name that is bound, if exactly one is
abbrev pub single_name : Binding → Option Text
single_name no_binding = None
single_name (single p) = bound_name p
single_name (both p q) = None

-- the two names that are bound, if two are
abbrev pub both_names : Binding → Option (Text × Text)
both_names no_binding = None
both_names (single p) = None
both_names (both p q) = bound_name p >>= λ first. bound_name q >>= λ second. Some (first, second)

-- ---- values that a local helper has

-- a value that no text and no path of the template leads to
abbrev pub plain_value : Data → PathAndData
plain_value d = record { relative_path = None; found = value d; is_constant = false }

-- the values are passed before the parameters of the call
abbrev pub with_constants : List Data → HelperView → HelperView
with_constants ds h = record h { call = record h.call { params = map plain_value ds ++ h.call.params } }
