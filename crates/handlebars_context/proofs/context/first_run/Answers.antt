use Rattle.std.proofs.Common.{false, ap, ◌∙◌}
use Rattle.handlebars_scope.specs.LineState.{LineState}
use Rattle.handlebars_semantics.specs.State.{first_state}
use Rattle.handlebars_context.proofs.context.first_run.Goals as goal

pub returns : goal.returns
returns c = λ fs. c.start.ensures.run fs ∙ ap (λ (l : LineState). record (first_state false) { blocks = fs; line = l }) c.first.ensures
