use Rattle.std.proofs.Common.{None, refl}
use Rattle.handlebars_semantics.specs.Occurrences.{first_tree, element_in}
use Rattle.handlebars_write.proofs.Refinement.{refines-only}
use Rattle.handlebars_expand.specs.Boxed.{error_of}
use Rattle.handlebars.proofs.Rendered.{refines-failed}
use Rattle.handlebars.proofs.render.TemplateElementRenderable.render.Goals as goal

pub returns-in-Ok-clause-renders : goal.returns-in-Ok-clause-renders
returns-in-Ok-clause-renders g c = λ ready.
    refines-only _ _ _ (λ location. refl) (c.in-Ok.ensures.renders (element_in first_tree 0 None))

pub returns-in-Err-clause-renders : goal.returns-in-Err-clause-renders
returns-in-Err-clause-renders g c = λ ready.
    refines-failed _ _ _ c.args.rc.now c.render_element_into.new.rc c.fail_after.new.rc _ _ (error_of c.in-Err.e)
    c.into_error.result c.fail_after.result c.into_error.ensures c.fail_after.ensures.answer c.fail_after.ensures.err
    (refines-only _ _ _ (λ location. refl) (c.in-Err.ensures.renders (element_in first_tree 0 None)))
