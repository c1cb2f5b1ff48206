use Rattle.std.proofs.lemmas.Result.{IfOk-weaker, IfErr-weaker, err_from_is_err_and}
use Rattle.handlebars_base.specs.TemplateRefusals.{template_refusal_of}
use Rattle.handlebars_scope.specs.Contexts.{data_of}
use Rattle.handlebars_template.specs.TreeView.{tree_view}
use Rattle.handlebars.proofs.Asks.{asks-nothing}
use Rattle.handlebars.proofs.OverLaws.{gives-by-source, fails-by-source, source-fails-at-file, source-rejected}
use Rattle.handlebars.proofs.CallLaws.{obeys_laws}
use Rattle.handlebars.proofs.registry.RegistryOf.render_template_with_context.Goals as goal

pub returns-in_err-template-clause-err : goal.returns-in_err-template-clause-err
returns-in_err-template-clause-err g c = source-rejected _ _ _ _ _ _ (template_refusal_of c.in_err-template.field-0.0) c.from_residual.result
    c.in_err-template.ensures.err c.from_residual.ensures.1

pub returns-in_err-read-clause-err : goal.returns-in_err-read-clause-err
returns-in_err-read-clause-err g c =
    let p = err_from_is_err_and c.from_residual-in_err-read.result c.from_residual-in_err-read.ensures.1 in
    rw (p.1, p.2) (λ other. source-fails-at-file _ _ _ _ _ (tree_view c.in_ok-template.template) _ _ c.in_err-read.field-0.0
    c.in_ok-template.ensures.ok c.in_err-read.ensures.err)

pub returns-clause-ok : goal.returns-clause-ok
returns-clause-ok g c = IfOk-weaker c.renders_over.result _ _
    (λ text is. gives-by-source g.E.UserParts.registered g.E.UserParts.user c.args.self.now (data_of c.args.ctx.now) _ _ _ c.in_ok-read.read _ c.args.source.now
    (tree_view c.in_ok-template.template) c.in_ok-template.ensures.ok c.in_ok-read.ensures.ok _ _ _ c.in_ok-rc.ensures.state is.1)
    c.renders_over.ensures.ok

pub returns-clause-err : goal.returns-clause-err
returns-clause-err g c = IfErr-weaker c.renders_over.result _ _
    (λ e is other. fails-by-source g.E.UserParts.registered g.E.UserParts.user c.args.self.now (data_of c.args.ctx.now) _ _ _ c.in_ok-read.read _ c.args.source.now
    (tree_view c.in_ok-template.template) c.in_ok-template.ensures.ok c.in_ok-read.ensures.ok _ _ c.in_ok-rc.ensures.state
    (is c.in_ok-rc.ensures.ready other)) c.renders_over.ensures.err

pub returns-in_err-template-clause-laws : goal.returns-in_err-template-clause-laws
returns-in_err-template-clause-laws g c = obeys_laws g.E.UserParts.registered g.E.UserParts.user c.args.self.now c.satisfies_law.ensures c.args.source.now

pub returns-in_err-read-clause-laws : goal.returns-in_err-read-clause-laws
returns-in_err-read-clause-laws g c = obeys_laws g.E.UserParts.registered g.E.UserParts.user c.args.self.now c.satisfies_law.ensures c.args.source.now

pub returns-in_err-rc-clause-laws : goal.returns-in_err-rc-clause-laws
returns-in_err-rc-clause-laws g c = obeys_laws g.E.UserParts.registered g.E.UserParts.user c.args.self.now c.satisfies_law.ensures c.args.source.now

pub returns-clause-laws : goal.returns-clause-laws
returns-clause-laws g c = obeys_laws g.E.UserParts.registered g.E.UserParts.user c.args.self.now c.satisfies_law.ensures c.args.source.now

pub returns-in_err-template-clause-asks : goal.returns-in_err-template-clause-asks
returns-in_err-template-clause-asks g c = asks-nothing g.R.TemplateReader.reads c.args.self.now _ c.args.files.now
