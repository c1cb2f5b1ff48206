-- A value with the path that it was written as.
use Rattle.std.specs.Prelude.{Bool, cond, string_bytes, Option, None, option_map}
use Rattle.handlebars_base.specs.Bytes.{Text}
use Rattle.serde_json.specs.Data.{Data}
use Rattle.handlebars_base.specs.Scoped.{Found, found_of, is_constant, present_in}
use Rattle.handlebars_base.specs.declared.json.value.path_and_json.PathAndJson.{PathAndJson}

-- the path as it was written, if any; what was found; and whether it is a constant of the template
pub record PathAndData : Type 0 where
  pub relative_path : Option Text
  pub found : Found
  pub is_constant : Bool

abbrev pub path_and_data : PathAndJson → PathAndData
path_and_data p =
    let path = option_map string_bytes p.relative_path in
    record { relative_path = path; found = found_of p.value; is_constant = is_constant p.value }

-- the value, if it is a constant
abbrev pub constant_in : PathAndData → Option Data
constant_in p = cond p.is_constant (present_in p.found) None
