-- What is registered under a helper's name, and what a call calls.
use Rattle.std.specs.Prelude.{List, Option, option_map}
use Rattle.serde_json.specs.Data.{Data}
use Rattle.handlebars_base.specs.Bytes.{Text}
use Rattle.handlebars_helpers.specs.Choice.{BuiltInKind, built_in}

-- a built-in helper, or a user-defined one, by its name
pub data Callee : Type 0 where
  built : BuiltInKind → Callee
  user : Text → Callee

-- what is registered under a name at the start
abbrev pub first_callee : Text → Option Callee
first_callee name = option_map (λ kind. built kind) (built_in name)

-- A local helper, which a decorator binds to a name: the helper that is registered under another name, with values that are
-- passed before the parameters of each call.
pub record LocalHelper : Type 0 where
  pub registered : Text
  pub constants : List Data

-- what a call calls: a registered helper, or the local helper of a name
pub data Target : Type 0 where
  calls_registered : Callee → Target
  calls_local : Text → Target
