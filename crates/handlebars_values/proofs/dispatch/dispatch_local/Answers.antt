use Rattle.std.proofs.Common.{[]}
use Rattle.handlebars_base.specs.RenderRefusals.{refusal_of}
use Rattle.handlebars_helpers.specs.UserView.{local_of}
use Rattle.handlebars_expand.specs.Boxed.{answer_of, error_of}
use Rattle.handlebars_expand.proofs.BoundCalls.{local_call-there}
use Rattle.handlebars_values.specs.Dispatch.{dispatched_of}
use Rattle.handlebars_values.specs.RunView.{run_state}
use Rattle.handlebars_values.proofs.Dispatching.{local_call-gone}
use Rattle.handlebars_values.proofs.dispatch.dispatch_local.Goals as goal

pub returns-in-Some : goal.returns-in-Some
returns-in-Some g c = λ h.
    local_call-there (dispatched_of h) (g.P.Registered.parts c.args.environment.now.inclusion.now.parts.now)
    ((run_state [] c.args.run.now).local c.args.name.now) (local_of c.in-Some.helper.now) c.args.name.now h
    (answer_of c.dispatch_to.result) (c.in-Some.ensures []) (c.dispatch_to.ensures h)

pub returns-in-None : goal.returns-in-None
returns-in-None g c = λ h other.
    local_call-gone (g.P.Registered.parts c.args.environment.now.inclusion.now.parts.now)
    ((run_state [] c.args.run.now).local c.args.name.now) c.args.name.now h (refusal_of (error_of c.helper_not_found.result))
    (c.in-None.ensures []) (c.helper_not_found.ensures other)
