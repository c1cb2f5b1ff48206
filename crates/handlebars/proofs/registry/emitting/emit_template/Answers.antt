use Rattle.std.proofs.Common.{refl}
use Rattle.handlebars_scope.specs.Contexts.{data_of}
use Rattle.handlebars_semantics.specs.Occurrences.{first_tree}
use Rattle.handlebars_expand.specs.Boxed.{error_of}
use Rattle.handlebars_write.proofs.Refinement.{refines-propagated, refines-run}
use Rattle.handlebars.specs.Files.{tree_in}
use Rattle.handlebars.proofs.OverLaws.{with-lawful}
use Rattle.handlebars.proofs.Emitting.{emits_run, emits_without_memory}
use Rattle.handlebars.proofs.registry.emitting.emit_template.Goals as goal

pub returns-in_err-rc : goal.returns-in_err-rc
returns-in_err-rc g c = emits_without_memory _ _ _ c.from_residual.result _ c.from_residual.ensures.1

pub returns-in-Ok : goal.returns-in-Ok
returns-in-Ok g c =
    emits_run _ (with-lawful g.E.UserParts.registered g.E.UserParts.user c.args.registry.now (data_of c.args.ctx.now) (tree_in c.args.read.now) c.satisfies_law.ensures) _
    c.in_ok-rc.ensures.state (refines-run _ _ (c.in-Ok.ensures.renders first_tree refl))

pub returns : goal.returns
returns g c =
    emits_run _ (with-lawful g.E.UserParts.registered g.E.UserParts.user c.args.registry.now (data_of c.args.ctx.now) (tree_in c.args.read.now) c.satisfies_law.ensures) _
    c.in_ok-rc.ensures.state (refines-propagated _ _ (error_of c.in-Err.e) c.into_error.result c.into_error.ensures
    (refines-run _ _ (c.in-Err.ensures.renders first_tree refl)))
