use Rattle.std.proofs.Common.{refl}
use Rattle.handlebars_expand.specs.Boxed.{error_of}
use Rattle.handlebars_context.specs.View.{state_of}
use Rattle.handlebars.proofs.Evaluated.{evals-failed}
use Rattle.handlebars.proofs.render.evaluable.TemplateEvaluable.eval.Goals as goal

pub returns-in-Ok-clause-evals : goal.returns-in-Ok-clause-evals
returns-in-Ok-clause-evals g c = λ ready. c.in-Ok.ensures.evals

pub returns-in-Err-clause-evals : goal.returns-in-Err-clause-evals
returns-in-Err-clause-evals g c = λ ready.
    evals-failed _ _ _ _ _ (state_of c.evaluate_tree.new.rc) _ (error_of c.in-Err.e) c.into_error.result
    c.fail_after.result refl c.into_error.ensures c.fail_after.ensures.answer c.in-Err.ensures.evals
