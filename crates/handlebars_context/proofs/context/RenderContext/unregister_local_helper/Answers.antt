use Rattle.handlebars_scope.specs.ScopeView.{frames_of}
use Rattle.handlebars_context.proofs.Unchanged.{modes-unbound, unchanged-run}
use Rattle.handlebars_context.proofs.context.RenderContext.unregister_local_helper.Goals as goal

pub returns-clause-state : goal.returns-clause-state
returns-clause-state c = c.unbind_helper.ensures.run (frames_of c.args.self.now.blocks.items)

pub returns-clause-unchanged : goal.returns-clause-unchanged
returns-clause-unchanged c = unchanged-run c.args.self.now c.unbind_helper.new.self
    (modes-unbound c.args.self.now.run c.unbind_helper.new.self c.args.name.now c.unbind_helper.ensures.run)
