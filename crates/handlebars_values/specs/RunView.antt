-- The state of a run, as the code represents it.
use Rattle.std.specs.Prelude.{◌≡◌, List, [], None, option_map, string_bytes}
use Rattle.std.specs.BTreeMap.{get_by_text}
use Rattle.handlebars_scope.specs.Contexts.{data_of}
use Rattle.handlebars_scope.specs.LineView.{line_of}
use Rattle.handlebars_scope.specs.Scopes.{Frame}
use Rattle.handlebars_helpers.specs.UserView.{local_of}
use Rattle.handlebars_semantics.specs.State.{State}
use Rattle.handlebars_values.specs.declared.run.Run.{Run}

-- The state of a run whose scope frames are these, outside of every inclusion.
abbrev pub run_state : List Frame → Run → State
run_state fs r = record {
  current = option_map string_bytes r.current_template;
  blocks = fs;
  recursive = r.recursive_lookup;
  line = line_of r.line;
  escapes = r.escapes;
  indent = None;
  captured = [];
  inclusions = 0;
  changed = option_map data_of r.changed;
  local = λ name. option_map local_of (get_by_text r.local_helpers name);
}

-- The partials of scope frames are the same ones.
abbrev pub HasSamePartials : Run → Run → Type 0
HasSamePartials before after = after.partials ≡ before.partials
