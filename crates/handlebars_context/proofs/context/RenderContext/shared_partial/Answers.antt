use Rattle.std.proofs.Common.{◌∙◌}
use Rattle.handlebars_template.specs.TreeView.{tree_view}
use Rattle.handlebars_scope.specs.ScopeView.{frame_of}
use Rattle.handlebars_context.specs.View.{state_of}
use Rattle.handlebars_context.proofs.Nearest.{partial_in-here, partial_in-next}
use Rattle.handlebars_context.proofs.context.RenderContext.shared_partial.Goals as goal

pub loop-at-preserved : goal.loop-at-preserved
loop-at-preserved c = partial_in-next c.args.name.now c.loop-at.at (state_of c.args.self.now).blocks (frame_of c.in-Some.block.now)
    c.in-Some.ensures c.in_default-get_local_partial.ensures ∙ c.loop-at.invariant

pub returns-in-Some-get_local_partial : goal.returns-in-Some-get_local_partial
returns-in-Some-get_local_partial c = partial_in-here c.args.name.now c.loop-at.at (state_of c.args.self.now).blocks
    (frame_of c.in-Some.block.now) (tree_view c.in-Some-get_local_partial.template.now.value) c.in-Some.ensures
    c.in-Some-get_local_partial.ensures ∙ c.loop-at.invariant
