use Rattle.std.proofs.Common.{ap}
use Rattle.handlebars_helpers.specs.UserView.{local_of}
use Rattle.handlebars_expand.proofs.Changed.{by_text-taken}
use Rattle.handlebars_values.specs.RunView.{run_state}
use Rattle.handlebars_values.proofs.run.Run.unbind_helper.Goals as goal

pub returns-clause-run : goal.returns-clause-run
returns-clause-run c = λ fs. ap (λ l. record (run_state fs c.args.self.now) { local = l })
    (by_text-taken local_of c.args.self.now.local_helpers c.remove.new.self c.args.name.now c.remove.ensures.updates)
