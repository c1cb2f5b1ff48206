use Rattle.handlebars_base.specs.PathAndData.{path_and_data}
use Rattle.handlebars_values.specs.ParamView.{argument_view}
use Rattle.handlebars_values.proofs.PassedInOrder.{passed-next, passed-all}
use Rattle.handlebars_values.proofs.passed.hash_passed.Goals as goal

pub hash-preserved : goal.hash-preserved
hash-preserved c =
    passed-next path_and_data argument_view c.args.hash.entries c.hash.key-iterator _ c.hash.passed.entries _ c.in-Some.key
    c.in_ok-into_path_and_json.field-0 c.in-Some.value c.into_iter-key-iterator.ensures.into_iter_gives.5 c.hash.invariant
    c.in-Some.ensures.steps c.in_ok-into_path_and_json.ensures c.in_ok-pass.ensures

pub returns : goal.returns
returns c = passed-all (λ h. (h.0.now, path_and_data h.1)) (λ h. (h.0.now, argument_view h.1)) _ c.hash.passed.entries c.hash.key-iterator
    c.hash.invariant c.in-None.ensures.steps.0
