use Rattle.handlebars_template.specs.Tree.{tree_name}
use Rattle.handlebars_template.specs.TreeView.{tree_view}
use Rattle.handlebars_scope.specs.Contexts.{data_of}
use Rattle.handlebars_semantics.specs.Evaluation.{eval_tree, renamed}
use Rattle.handlebars_expand.specs.Boxed.{answer_of}
use Rattle.handlebars_elements.specs.Silent.{Evals}
use Rattle.handlebars_entry.specs.Entry.{over}
use Rattle.handlebars_entry.proofs.Restored.{restored}
use Rattle.handlebars_entry.proofs.entry.evaluate_tree.Goals as goal

pub returns-clause-evals : goal.returns-clause-evals
returns-clause-evals g c =
    restored (λ s next. Evals (over (g.P.Registered.parts c.args.parts.now) (data_of c.args.given.now)) (eval_tree (tree_view c.args.template.now))
    (renamed (tree_name (tree_view c.args.template.now))) s (answer_of c.eval_outermost-answer.result) next)
    c.take-blocks.ensures.state c.restore.ensures.state c.eval_outermost-answer.ensures.evals

pub returns-clause-unchanged : goal.returns-clause-unchanged
returns-clause-unchanged g c =
    let u = c.eval_outermost-answer.ensures.unchanged in
    c.restore.ensures.unchanged c.args.rc.now c.take-blocks.result.1 c.take-blocks.ensures (record { recursive = u.recursive; escapes = u.escapes })
