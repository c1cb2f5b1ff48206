use Rattle.handlebars_template.specs.TreeView.{tree_view}
use Rattle.handlebars_semantics.specs.Steps.{Whole, perform}
use Rattle.handlebars_values.specs.View.{within}
use Rattle.handlebars_write.specs.OutcomeView.{outcome_answer}
use Rattle.handlebars_write.specs.View.{RefinesProg, held_in, moment_at}
use Rattle.handlebars_entry.proofs.OutsideInclusions.{around-outermost, captures-outermost, says-outermost, uncaptured}
use Rattle.handlebars_entry.proofs.outermost.render_with.Goals as goal

pub returns-clause-renders : goal.returns-clause-renders
returns-clause-renders g c = λ blocks registered d outside inclusion at first.
    let x = c.environment_outside-environment.result in
    let w = g.T.OutputMode.mode in
    let is = c.environment_outside-environment.ensures blocks registered d outside inclusion in
    says-outermost x registered d blocks is g.P.Registered.parts
    (λ p s next. RefinesProg p (perform (Whole at (tree_view c.args.template.now))) w.may_give (moment_at s (held_in w c.args.sink.now))
    (outcome_answer c.render_tree.result) (moment_at next (held_in w c.render_tree.new.sink)))
    c.args.run.now c.render_tree.new.run
    (c.render_tree.ensures.renders at (around-outermost x registered d blocks is w.asks at first) (uncaptured (within x))
    (captures-outermost x registered d blocks is w.asks))
