use Rattle.std.proofs.Common.{◌∙◌, sym, ap}
use Rattle.handlebars_base.specs.Outputs.{Held}
use Rattle.handlebars_scope.specs.Contexts.{data_of}
use Rattle.handlebars_expand.specs.Boxed.{error_of}
use Rattle.handlebars_write.proofs.Refinement.{refines-propagated}
use Rattle.handlebars.specs.Files.{tree_in}
use Rattle.handlebars.proofs.OverLaws.{with-lawful}
use Rattle.handlebars.proofs.Writing.{Writes-at, writes_run, writes_without_memory}
use Rattle.handlebars.proofs.registry.writing.write_template.Goals as goal

pub returns-in_err-rc : goal.returns-in_err-rc
returns-in_err-rc g c = writes_without_memory _ _ c.from_residual.result _ c.from_residual.ensures.1

pub returns-in-Ok : goal.returns-in-Ok
returns-in-Ok g c =
    Writes-at _ _ g.W.Write.contents c.new.ensures.writer
    (c.writer-1.given.1 (sym (c.render_named-answer.ensures.same ∙ c.new.ensures.same)))
    (writes_run _ (with-lawful g.E.UserParts.registered g.E.UserParts.user c.args.registry.now (data_of c.args.ctx.now) (tree_in c.args.read.now) c.satisfies_law.ensures) _
    c.in_ok-rc.ensures.state (ap (λ (h : Held). h.text) c.new.ensures.held) c.render_named-answer.ensures.reported
    (rw c.in-Ok.is at c.render_named-answer.ensures.renders))

pub returns : goal.returns
returns g c =
    Writes-at _ _ g.W.Write.contents c.new.ensures.writer
    (c.writer-1.given.1 (sym (c.render_named-answer.ensures.same ∙ c.new.ensures.same)))
    (writes_run _ (with-lawful g.E.UserParts.registered g.E.UserParts.user c.args.registry.now (data_of c.args.ctx.now) (tree_in c.args.read.now) c.satisfies_law.ensures) _
    c.in_ok-rc.ensures.state (ap (λ (h : Held). h.text) c.new.ensures.held) c.render_named-answer.ensures.reported
    (refines-propagated _ _ (error_of c.in-Err.e) c.into_error.result c.into_error.ensures
    (rw c.in-Err.is at c.render_named-answer.ensures.renders)))
