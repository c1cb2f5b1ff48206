-- What the code's values stand for.
use Rattle.std.specs.Prelude.{List, map, Option, option_map, String, string_bytes, Vec}
use denote.Ref.{Bor}
use Rattle.std.specs.declared.alloc.Global.{Global}
use Rattle.std.specs.Cow.{cow_str_bytes}
use Rattle.serde_json.specs.View.{view}
use Rattle.log.specs.declared.level.Level.{Level}
use Rattle.handlebars_base.specs.Bytes.{Text}
use Rattle.handlebars_base.specs.PathAndData.{path_and_data}
use Rattle.handlebars_template.specs.TreeView.{tree_view, binding_view, body_of, binding_of}
use Rattle.handlebars_helpers.specs.CallView.{HelperView}
use Rattle.handlebars_helpers.specs.Iterations.{Iteration}
use Rattle.handlebars_helpers.specs.IterationsLeft.{left_iterations}
use Rattle.handlebars_helpers.specs.Choice.{BuiltInKind, kind_if, kind_unless, kind_each, kind_with, kind_lookup, kind_raw, kind_log, kind_eq, kind_ne, kind_gt, kind_gte, kind_lt, kind_lte, kind_and, kind_or, kind_not, kind_len}
use Rattle.handlebars_helpers.specs.declared.built_in.BuiltIn.{BuiltIn}
use Rattle.handlebars_helpers.specs.declared.built_in.BuiltIn.TheVariants.{If, Unless, Each, With, Lookup, Raw, Log, Eq, Ne, Gt, Gte, Lt, Lte, And, Or, Not, Len}
use Rattle.handlebars_helpers.specs.declared.iteration.Iteration as declared_iteration
use Rattle.handlebars_helpers.specs.declared.each_iterations.state.Iterations as declared_iterations
use Rattle.handlebars_helpers.specs.declared.view.Helper.{Helper}

abbrev pub helper_view : Helper → HelperView
helper_view h = record {
  call = record {
    name = cow_str_bytes h.name;
    params = map path_and_data h.params.items;
    hash = map (λ e. (e.0.now, path_and_data e.1)) h.hash.entries;
  };
  binding = binding_of (option_map (λ b. binding_view b.now) h.block_param);
  body = body_of (option_map (λ t. tree_view t.now) h.template);
  inverse = body_of (option_map (λ t. tree_view t.now) h.inverse);
  block = h.block;
}

abbrev pub built_in_kind : BuiltIn → BuiltInKind
built_in_kind If = kind_if
built_in_kind Unless = kind_unless
built_in_kind Each = kind_each
built_in_kind With = kind_with
built_in_kind Lookup = kind_lookup
built_in_kind Raw = kind_raw
built_in_kind Log = kind_log
built_in_kind Eq = kind_eq
built_in_kind Ne = kind_ne
built_in_kind Gt = kind_gt
built_in_kind Gte = kind_gte
built_in_kind Lt = kind_lt
built_in_kind Lte = kind_lte
built_in_kind And = kind_and
built_in_kind Or = kind_or
built_in_kind Not = kind_not
built_in_kind Len = kind_len

-- an iteration of `each`
abbrev pub iteration_view : declared_iteration.Iteration → Iteration
iteration_view t = record { index = t.index; key = option_map (λ k. k.now) t.key; last = t.last; member = view t.member.now }

-- the iterations of `each` that are left
abbrev pub iterations_left : declared_iterations.Iterations → List Iteration
iterations_left t = left_iterations t.count t.index t.left

-- the path of what is iterated over, if it has one
abbrev pub path_view : Option (Bor (Vec (String Global) Global)) → Option (List Text)
path_view path = option_map (λ p. map string_bytes p.now.items) path

-- the level and the text of a line
abbrev pub line_seen : Level × String Global → Level × Text
line_seen line = (line.0, string_bytes line.1)
