use Rattle.std.proofs.Common.{◌∙◌, sym, ap, length, arith}
use Rattle.handlebars_base.specs.PathAndData.{path_and_data}
use Rattle.handlebars_values.specs.ParamView.{argument_view}
use Rattle.handlebars_values.proofs.PassedInOrder.{passed-begin, passed-more, passed-all, nothing_left}
use Rattle.handlebars_values.proofs.passed.params_passed.Goals as goal

pub params-init : goal.params-init
params-init c = record {
  all = passed-begin path_and_data argument_view _ _ _ c.in_ok-passed.ensures.items c.into_iter-param-iterator.ensures.into_iter_gives.0;
  sized = c.into_iter-param-iterator.ensures.into_iter_gives.1 ∙ c.args.params.ok.0
      ∙ ap length (sym c.into_iter-param-iterator.ensures.into_iter_gives.0);
}

pub params-preserved : goal.params-preserved
params-preserved c =
    let was = c.params.invariant.sized in
    let gone = c.in-Some.ensures.steps.1 in
    let short = ap length c.in-Some.ensures.steps.0 in
    record {
      all = passed-more path_and_data argument_view _ _ _ _ _ c.in_ok-into_path_and_json.field-0 c.in-Some.param
          c.params.invariant.all c.in-Some.ensures.steps.0 c.in_ok-into_path_and_json.ensures c.in_ok-push.ensures.items;
      sized = omega arith;
    }

pub returns : goal.returns
returns c = passed-all path_and_data argument_view _ _ _ c.params.invariant.all
    (nothing_left _ (sym c.params.invariant.sized ∙ c.in-None.ensures.steps.0))
