use Rattle.std.proofs.Common.{List, false, ap, ◌∙◌}
use Rattle.handlebars_scope.specs.Scopes.{Frame}
use Rattle.handlebars_scope.specs.ScopeView.{frames_of}
use Rattle.handlebars_semantics.specs.State.{first_state}
use Rattle.handlebars_context.proofs.context.RenderContext.new.Goals as goal

pub returns-clause-state : goal.returns-clause-state
returns-clause-state c = c.first_run.ensures (frames_of c.in_ok-blocks.blocks.items)
    ∙ ap (λ (fs : List Frame). record (first_state false) { blocks = fs }) c.in_ok-blocks.ensures
