use Rattle.handlebars_template.specs.TreeView.{element_view}
use Rattle.handlebars_semantics.specs.Evaluation.{decorator_alone}
use Rattle.handlebars_semantics.specs.Means.{render_element}
use Rattle.handlebars_expand.specs.Boxed.{answer_of}
use Rattle.handlebars_values.specs.View.{within}
use Rattle.handlebars_elements.specs.Silent.{Does}
use Rattle.handlebars_entry.proofs.OutsideInclusions.{says-outermost, uncaptured}
use Rattle.handlebars_entry.proofs.evaluating.eval_element_with.Goals as goal

pub returns-clause-does : goal.returns-clause-does
returns-clause-does g c = λ blocks registered d outside inclusion occurrence.
    let x = c.environment_outside-environment.result in
    let is = c.environment_outside-environment.ensures blocks registered d outside inclusion in
    says-outermost x registered d blocks is g.P.Registered.parts
    (λ p s next. Does p (render_element occurrence (decorator_alone (element_view c.args.element.now))) s (answer_of c.eval_element.result) next)
    c.args.run.now c.eval_element.new.run (c.eval_element.ensures.does occurrence (uncaptured (within x)))
