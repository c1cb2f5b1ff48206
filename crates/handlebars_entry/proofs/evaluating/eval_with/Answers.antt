use Rattle.handlebars_template.specs.Tree.{tree_name}
use Rattle.handlebars_template.specs.TreeView.{tree_view}
use Rattle.handlebars_semantics.specs.Evaluation.{eval_tree, renamed}
use Rattle.handlebars_expand.specs.Boxed.{answer_of}
use Rattle.handlebars_values.specs.View.{within}
use Rattle.handlebars_elements.specs.Silent.{Evals}
use Rattle.handlebars_entry.proofs.OutsideInclusions.{says-outermost, uncaptured}
use Rattle.handlebars_entry.proofs.evaluating.eval_with.Goals as goal

pub returns-clause-evals : goal.returns-clause-evals
returns-clause-evals g c = λ blocks registered d outside inclusion.
    let x = c.environment_outside-environment.result in
    let is = c.environment_outside-environment.ensures blocks registered d outside inclusion in
    says-outermost x registered d blocks is g.P.Registered.parts
    (λ p s next. Evals p (eval_tree (tree_view c.args.template.now)) (renamed (tree_name (tree_view c.args.template.now))) s
    (answer_of c.eval_tree.result) next)
    c.args.run.now c.eval_tree.new.run (c.eval_tree.ensures.evals (uncaptured (within x)))
