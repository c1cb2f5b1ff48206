use Rattle.std.proofs.Common.{◌≡◌, ◌++◌, length, map}
use Rattle.std.specs.Vec.Iter.{into_iter_items, into_iter_len}
use Rattle.handlebars_base.specs.PathAndData.{path_and_data}
use Rattle.handlebars_values.specs.ParamView.{argument_view}
use Rattle.handlebars_values.proofs.passed.params_passed.Given as goal

-- the parameters that are passed, followed by those that are left, are all parameters
abbrev pub invariant-params : goal.invariant-params
invariant-params l = record {
  all : map path_and_data l.passed.items ++ map argument_view (into_iter_items l.param-iterator) ≡ map argument_view l.fn.params.items;
  sized : into_iter_len l.param-iterator ≡ length (into_iter_items l.param-iterator);
}
