-- What the code's values of parameters represent.
use Rattle.std.specs.Prelude.{◌≡◌, Bool, true, false, option_map}
use Rattle.serde_json.specs.Data.{Data}
use Rattle.serde_json.specs.View.{view}
use Rattle.handlebars_base.specs.PathAndData.{PathAndData}
use Rattle.handlebars_base.specs.Scoped.{Found, walked, value, missing}
use Rattle.handlebars_scope.specs.Contexts.{data_of}
use Rattle.handlebars_layers.specs.Reached.{reached_names}
use Rattle.handlebars_values.specs.declared.param_value.ParamValue.{ParamValue}
use Rattle.handlebars_values.specs.declared.param_value.ParamValue.TheVariants.{Node, Held, Literal, Computed, Missing}
use Rattle.handlebars_values.specs.declared.param_value.Argument.{Argument}

-- a value of the data with its full path, another value, or none
abbrev pub value_found : ParamValue → Found
value_found (Node r) = walked (view r.value.now) (reached_names r)
value_found (Held v) = value (view v.now)
value_found (Literal v) = value (view v.now)
value_found (Computed v) = value (view v)
value_found Missing = missing

-- A value of the data is one of these data. Any other value may stand anywhere.
abbrev pub IsOf : Data → ParamValue → Type 0
IsOf d (Node r) = data_of r.innermost.now.given.now ≡ d
IsOf d (Held v) = Unit {0}
IsOf d (Literal v) = Unit {0}
IsOf d (Computed v) = Unit {0}
IsOf d Missing = Unit {0}

-- whether it is a literal of the template
abbrev pub is_literal_value : ParamValue → Bool
is_literal_value (Literal v) = true
is_literal_value v = false

-- the text as written, if any; what was found; and whether it is a literal
abbrev pub argument_view : Argument → PathAndData
argument_view a = record {
  relative_path = option_map (λ t. t.now) a.written;
  found = value_found a.value;
  is_constant = is_literal_value a.value;
}
