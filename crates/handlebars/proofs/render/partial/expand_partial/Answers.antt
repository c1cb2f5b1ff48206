use Rattle.handlebars_write.proofs.Refinement.{refines-run}
use Rattle.handlebars_expand.specs.Boxed.{error_of}
use Rattle.handlebars.proofs.Rendered.{refines-failed}
use Rattle.handlebars.proofs.render.partial.expand_partial.Goals as goal

pub returns-in-Ok-clause-includes : goal.returns-in-Ok-clause-includes
returns-in-Ok-clause-includes g c = λ occurrence ready.
    refines-run _ _ (c.in-Ok.ensures.renders occurrence)

pub returns-in-Err-clause-includes : goal.returns-in-Err-clause-includes
returns-in-Err-clause-includes g c = λ occurrence ready.
    refines-failed _ _ _ c.args.rc.now c.include_into.new.rc c.fail_after.new.rc _ _ (error_of c.in-Err.e)
    c.into_error.result c.fail_after.result c.into_error.ensures c.fail_after.ensures.answer c.fail_after.ensures.err
    (refines-run _ _ (c.in-Err.ensures.renders occurrence))
