-- What the code's scope frames represent.
use Rattle.std.specs.Prelude.{List, map, String, string_bytes, Option, option_map}
use Rattle.std.specs.BTreeMap.{BTreeMap, get_by_text}
use Rattle.std.specs.declared.alloc.Global.{Global}
use Rattle.std.specs.declared.rc.Rc.{Rc}
use Rattle.serde_json.specs.Data.{Data}
use Rattle.serde_json.specs.View.{view}
use Rattle.handlebars_base.specs.Bytes.{Text}
use Rattle.handlebars_template.specs.Tree.{Tree}
use Rattle.handlebars_template.specs.TreeView.{tree_view}
use Rattle.handlebars_template.specs.declared.template.tree.Template.{Template}
use Rattle.handlebars_scope.specs.Scopes.{Bound, bound_path, bound_value, Frame}
use Rattle.handlebars_scope.specs.declared.local_vars.LocalVars.{LocalVars}
use Rattle.handlebars_scope.specs.declared.block.BlockContext.{BlockContext}
use Rattle.handlebars_scope.specs.declared.block.BlockParamHolder.{BlockParamHolder}
use Rattle.handlebars_scope.specs.declared.block.BlockParamHolder.TheVariants.{Path, Value}
use Rattle.handlebars_scope.specs.declared.block.BlockParams.{BlockParams}

-- the variables by name
abbrev pub variables_of : LocalVars → Text → Option Data
variables_of v name = option_map view (get_by_text v.by_name name)

abbrev pub bound_of : BlockParamHolder → Bound
bound_of (Path path) = bound_path (map string_bytes path.items)
bound_of (Value v) = bound_value (view v)

abbrev pub bounds_of : BlockParams → Text → Option Bound
bounds_of params name = option_map bound_of (get_by_text params.data name)

-- the partials of a map by name
abbrev pub partials_named : BTreeMap (String Global) (Rc Template Global) → Text → Option Tree
partials_named by_name name = option_map (λ t. tree_view t.value) (get_by_text by_name name)

abbrev pub frame_of : BlockContext → Frame
frame_of b = record {
  base_path = map string_bytes b.base_path.items;
  base_value = option_map view b.base_value;
  bound = bounds_of b.block_params;
  variable = variables_of b.local_variables;
  partial = partials_named b.local_partials;
}

abbrev pub frames_of : List BlockContext → List Frame
frames_of blocks = map frame_of blocks
