use Rattle.handlebars_base.specs.Scoped.{found_of}
use Rattle.handlebars_context.proofs.Evaluates.{evaluates_nowhere, evaluates_to, evaluation_failed}
use Rattle.handlebars_context.proofs.context.RenderContext.evaluate.Goals as goal

pub returns-in_err-reference-clause-err : goal.returns-in_err-reference-clause-err
returns-in_err-reference-clause-err c = evaluates_nowhere _ _ _ _ _ _ c.from_residual.ensures.1 c.in_err-reference.ensures.err

pub returns-clause-ok : goal.returns-clause-ok
returns-clause-ok c = evaluates_to _ _ _ _ found_of _ _ c.in_ok-reference.ensures.ok c.find-found.ensures.found

pub returns-clause-err : goal.returns-clause-err
returns-clause-err c = evaluation_failed _ _ _ _ found_of _ _ c.in_ok-reference.ensures.ok c.find-found.ensures.found
