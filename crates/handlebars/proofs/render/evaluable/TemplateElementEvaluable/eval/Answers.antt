use Rattle.std.proofs.Common.{None, Ok, Err, refl}
use Rattle.handlebars_template.specs.TreeView.{element_view}
use Rattle.handlebars_semantics.specs.Evaluation.{decorator_alone}
use Rattle.handlebars_semantics.specs.Occurrences.{first_tree, element_in}
use Rattle.handlebars_expand.specs.Boxed.{error_of}
use Rattle.handlebars_context.specs.View.{state_of}
use Rattle.handlebars_elements.proofs.Silent.{evals-does}
use Rattle.handlebars.proofs.Evaluated.{evals-failed}
use Rattle.handlebars.proofs.render.evaluable.TemplateElementEvaluable.eval.Goals as goal

pub returns-in-Ok-clause-evals : goal.returns-in-Ok-clause-evals
returns-in-Ok-clause-evals g c = λ ready.
    evals-does _ first_tree 0 (decorator_alone (element_view c.args.self.now)) (state_of c.args.rc.now)
    (state_of c.evaluate_element.new.rc) (Ok tt) (c.in-Ok.ensures.does (element_in first_tree 0 None))

pub returns-in-Err-clause-evals : goal.returns-in-Err-clause-evals
returns-in-Err-clause-evals g c = λ ready.
    evals-failed _ _ _ (λ r. r) _ (state_of c.evaluate_element.new.rc) _ (error_of c.in-Err.e) c.into_error.result
    c.fail_after.result refl c.into_error.ensures c.fail_after.ensures.answer
    (evals-does _ first_tree 0 (decorator_alone (element_view c.args.self.now)) (state_of c.args.rc.now)
    (state_of c.evaluate_element.new.rc) (Err (error_of c.in-Err.e)) (c.in-Err.ensures.does (element_in first_tree 0 None)))
