use Rattle.std.proofs.Common.{map, drop}
use Rattle.handlebars_values.specs.ParamView.{argument_view}
use Rattle.handlebars_template.specs.TreeView.{params_view, hash_view}
use Rattle.handlebars_values.specs.View.{setting_in, state_with, CapturedIn, within, arguments_seen}
use Rattle.handlebars_expand.proofs.Values.{ParamsLeft, HashLeft}
use Rattle.handlebars_expand.proofs.Ordered.{Follows}
use Rattle.std.specs.Prelude.{List}
use Rattle.handlebars_base.specs.PathAndData.{PathAndData}
use Rattle.handlebars_values.specs.Truths.{AddsTruths}
use Rattle.handlebars_values.proofs.+value.Given as goal

abbrev pub invariant-expand::params_values-loop-parameter : goal.invariant-expand::params_values-loop-parameter
invariant-expand::params_values-loop-parameter g l =
    (captured : CapturedIn (within l.environment)) → ParamsLeft (setting_in g.P.Registered.parts l.environment) (state_with captured l.run) (params_view l.parameter-items)
    (params_view (drop l.parameter-index l.parameter-items)) (map argument_view l.values.items)

abbrev pub invariant-expand::hash_values-loop-key : goal.invariant-expand::hash_values-loop-key
invariant-expand::hash_values-loop-key g l = record {
  follows : Follows l.values.entries l.hash.entries l.key-iterator;
  left : (captured : CapturedIn (within l.environment)) → HashLeft (setting_in g.P.Registered.parts l.environment) (state_with captured l.run) (hash_view l.hash.entries)
      (hash_view l.key-iterator) (arguments_seen l.values.entries);
}

-- the values that are dropped so far
abbrev pub invariant-evaluate::evaluate_rest-loop-position : goal.invariant-evaluate::evaluate_rest-loop-position
invariant-evaluate::evaluate_rest-loop-position g l =
    (captured : CapturedIn (within l.environment)) → (so_far : List PathAndData) × ParamsLeft (setting_in g.P.Registered.parts l.environment)
    (state_with captured l.run) (params_view (drop l.first l.params.items)) (params_view (drop l.position l.params.items)) so_far

abbrev pub invariant-evaluate::truths-loop-parameter : goal.invariant-evaluate::truths-loop-parameter
invariant-evaluate::truths-loop-parameter g l =
    (captured : CapturedIn (within l.environment)) → (so_far : List PathAndData) × ParamsLeft (setting_in g.P.Registered.parts l.environment)
    (state_with captured l.run) (params_view l.parameter-items) (params_view (drop l.parameter-index l.parameter-items)) so_far
    × AddsTruths l.fn.so_far so_far l.all
