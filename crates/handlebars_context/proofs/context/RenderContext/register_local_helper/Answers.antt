use Rattle.std.proofs.Common.{string_bytes}
use Rattle.handlebars_helpers.specs.UserView.{local_of}
use Rattle.handlebars_context.proofs.Unchanged.{modes-bound, unchanged-run}
use Rattle.handlebars_context.proofs.context.RenderContext.register_local_helper.Goals as goal

pub returns-clause-unchanged : goal.returns-clause-unchanged
returns-clause-unchanged c = unchanged-run c.args.self.now c.bind_helper.new.self
    (modes-bound c.args.self.now.run c.bind_helper.new.self (string_bytes c.in_ok-name.name)
    (local_of (record { registered = c.in_ok-registered.registered; constants = c.args.constants })) c.bind_helper.result
    c.bind_helper.ensures.ok c.bind_helper.ensures.err)
