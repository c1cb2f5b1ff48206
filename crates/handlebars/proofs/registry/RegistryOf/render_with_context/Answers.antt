use Rattle.std.proofs.Common.{◌∙◌, ap}
use Rattle.std.proofs.lemmas.Result.{IfOk-weaker, IfErr-weaker, err_from_is_err_and}
use Rattle.handlebars_base.specs.Reasons.{template_not_found}
use Rattle.handlebars_base.specs.RenderRefusals.{plain_refusal}
use Rattle.handlebars_scope.specs.Contexts.{data_of}
use Rattle.handlebars.proofs.OverLaws.{gives-by-name, fails-by-name, not-found-by-name, fails-at-file}
use Rattle.handlebars.proofs.CallLaws.{obeys_laws_by_name}
use Rattle.handlebars.proofs.registry.RegistryOf.render_with_context.Goals as goal

pub returns-in_err-read-clause-err : goal.returns-in_err-read-clause-err
returns-in_err-read-clause-err g c =
    let p = err_from_is_err_and c.from_residual.result c.from_residual.ensures.1 in
    rw (p.1, p.2) (λ other. fails-at-file _ _ _ _ _ _ c.in_err-read.field-0.0 c.in_err-read.ensures.err)

pub returns-in_default-clause-err : goal.returns-in_default-clause-err
returns-in_default-clause-err g c = λ other. not-found-by-name g.E.UserParts.registered g.E.UserParts.user c.args.self.now (data_of c.args.ctx.now) _ _ _ c.in_ok-read.read
    c.args.name.now c.in_ok-read.ensures.ok c.into.result (rw c.in_default.is at c.template_over.ensures)
    (c.into.ensures ∙ ap (λ name. plain_refusal (template_not_found name)) c.in_ok-name.ensures.ok)

pub returns-clause-ok : goal.returns-clause-ok
returns-clause-ok g c = IfOk-weaker c.renders_over.result _ _
    (λ text is. gives-by-name g.E.UserParts.registered g.E.UserParts.user c.args.self.now (data_of c.args.ctx.now) _ _ _ c.in_ok-read.read c.args.name.now
    c.in_ok-read.ensures.ok _ _ _ _ (rw c.in-Some.is at c.template_over.ensures) c.in_ok-rc.ensures.state is.1)
    c.renders_over.ensures.ok

pub returns-clause-err : goal.returns-clause-err
returns-clause-err g c = IfErr-weaker c.renders_over.result _ _
    (λ e is other. fails-by-name g.E.UserParts.registered g.E.UserParts.user c.args.self.now (data_of c.args.ctx.now) _ _ _ c.in_ok-read.read c.args.name.now
    c.in_ok-read.ensures.ok _ _ _ (rw c.in-Some.is at c.template_over.ensures) c.in_ok-rc.ensures.state
    (is c.in_ok-rc.ensures.ready other)) c.renders_over.ensures.err

pub returns-in_err-read-clause-laws : goal.returns-in_err-read-clause-laws
returns-in_err-read-clause-laws g c = obeys_laws_by_name g.E.UserParts.registered g.E.UserParts.user c.args.self.now c.satisfies_law.ensures c.args.name.now

pub returns-in_err-name-clause-laws : goal.returns-in_err-name-clause-laws
returns-in_err-name-clause-laws g c = obeys_laws_by_name g.E.UserParts.registered g.E.UserParts.user c.args.self.now c.satisfies_law.ensures c.args.name.now

pub returns-in_default-clause-laws : goal.returns-in_default-clause-laws
returns-in_default-clause-laws g c = obeys_laws_by_name g.E.UserParts.registered g.E.UserParts.user c.args.self.now c.satisfies_law.ensures c.args.name.now

pub returns-in_err-rc-clause-laws : goal.returns-in_err-rc-clause-laws
returns-in_err-rc-clause-laws g c = obeys_laws_by_name g.E.UserParts.registered g.E.UserParts.user c.args.self.now c.satisfies_law.ensures c.args.name.now

pub returns-clause-laws : goal.returns-clause-laws
returns-clause-laws g c = obeys_laws_by_name g.E.UserParts.registered g.E.UserParts.user c.args.self.now c.satisfies_law.ensures c.args.name.now
