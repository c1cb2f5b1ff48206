use Rattle.handlebars_scope.specs.ScopeView.{frames_of}
use Rattle.handlebars_context.proofs.context.RenderContext.get_local_helper.Goals as goal

pub returns : goal.returns
returns c = c.local_helper.ensures (frames_of c.args.self.now.blocks.items)
