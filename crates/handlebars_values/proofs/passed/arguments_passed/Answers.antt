use Rattle.handlebars_values.proofs.PassedInOrder.{call_of-passed}
use Rattle.handlebars_values.proofs.passed.arguments_passed.Goals as goal

pub returns : goal.returns
returns c = λ name.
    call_of-passed name c.in_ok-params.params.items c.args.params.items c.in_ok-hash.hash.entries c.args.hash.entries
    c.in_ok-params.ensures c.in_ok-hash.ensures
