use Rattle.handlebars_semantics.specs.Occurrences.{first_tree}
use Rattle.handlebars_write.proofs.Refinement.{refines-run}
use Rattle.handlebars_expand.specs.Boxed.{error_of}
use Rattle.handlebars.proofs.Rendered.{refines-failed}
use Rattle.handlebars.proofs.render.over.render_over.Goals as goal

pub returns-in-Ok-clause-renders : goal.returns-in-Ok-clause-renders
returns-in-Ok-clause-renders g c = λ ready.
    refines-run _ _ (c.in-Ok.ensures.renders first_tree)

pub returns-in-Err-clause-renders : goal.returns-in-Err-clause-renders
returns-in-Err-clause-renders g c = λ ready.
    refines-failed _ _ _ c.args.rc.now c.render_into.new.rc c.fail_after.new.rc _ _ (error_of c.in-Err.e)
    c.into_error.result c.fail_after.result c.into_error.ensures c.fail_after.ensures.answer c.fail_after.ensures.err
    (refines-run _ _ (c.in-Err.ensures.renders first_tree))
