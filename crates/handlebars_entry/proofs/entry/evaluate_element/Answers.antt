use Rattle.handlebars_template.specs.TreeView.{element_view}
use Rattle.handlebars_scope.specs.Contexts.{data_of}
use Rattle.handlebars_semantics.specs.Evaluation.{decorator_alone}
use Rattle.handlebars_semantics.specs.Means.{render_element}
use Rattle.handlebars_expand.specs.Boxed.{answer_of}
use Rattle.handlebars_elements.specs.Silent.{Does}
use Rattle.handlebars_entry.specs.Entry.{over}
use Rattle.handlebars_entry.proofs.Restored.{restored}
use Rattle.handlebars_entry.proofs.entry.evaluate_element.Goals as goal

pub returns-clause-does : goal.returns-clause-does
returns-clause-does g c = λ occurrence.
    restored (λ s next. Does (over (g.P.Registered.parts c.args.parts.now) (data_of c.args.given.now))
    (render_element occurrence (decorator_alone (element_view c.args.element.now))) s (answer_of c.eval_outermost_element-answer.result) next)
    c.take-blocks.ensures.state c.restore.ensures.state (c.eval_outermost_element-answer.ensures.does occurrence)

pub returns-clause-unchanged : goal.returns-clause-unchanged
returns-clause-unchanged g c =
    let u = c.eval_outermost_element-answer.ensures.unchanged in
    c.restore.ensures.unchanged c.args.rc.now c.take-blocks.result.1 c.take-blocks.ensures (record { recursive = u.recursive; escapes = u.escapes })
