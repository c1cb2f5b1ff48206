use Rattle.std.proofs.Common.{ap}
use Rattle.handlebars_helpers.specs.UserView.{local_of}
use Rattle.handlebars_expand.proofs.Changed.{by_text-put}
use Rattle.handlebars_values.specs.RunView.{run_state}
use Rattle.handlebars_values.proofs.run.Run.bind_helper.Goals as goal

pub returns-clause-ok : goal.returns-clause-ok
returns-clause-ok c = λ fs. ap (λ l. record (run_state fs c.args.self.now) { local = l })
    (by_text-put local_of c.args.self.now.local_helpers c.insert.new.self c.args.name c.args.helper
    c.in_ok-insert.ensures.updates)
