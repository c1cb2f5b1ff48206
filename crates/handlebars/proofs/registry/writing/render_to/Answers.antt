use Rattle.handlebars_semantics.specs.Occurrences.{first_tree}
use Rattle.handlebars_write.proofs.Refinement.{refines-run}
use Rattle.handlebars.proofs.registry.writing.render_to.Goals as goal

pub returns-in-Ok : goal.returns-in-Ok
returns-in-Ok g c = refines-run _ _ (c.in-Ok.ensures.renders first_tree)

pub returns-in-Err : goal.returns-in-Err
returns-in-Err g c = rw c.of.ensures (refines-run _ _ (c.in-Err.ensures.renders first_tree))
