use Rattle.std.proofs.Common.{◌≡◌, drop}
use Rattle.handlebars_semantics.specs.State.{partial_in}
use Rattle.handlebars_context.specs.View.{state_of}
use Rattle.handlebars_context.proofs.context.RenderContext.shared_partial.Given as goal

-- None of the frames so far has the partial, so the rest decide.
abbrev pub invariant-loop-at : goal.invariant-loop-at
invariant-loop-at l = partial_in (drop l.at (state_of l.self).blocks) l.name ≡ partial_in (state_of l.self).blocks l.name
