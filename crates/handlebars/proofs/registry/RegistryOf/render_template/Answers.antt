use Rattle.std.proofs.Common.{inl, inr, refl}
use Rattle.std.proofs.lemmas.Result.{IfOk-weaker, IfErr-weaker}
use Rattle.handlebars_scope.specs.Contexts.{data_of}
use Rattle.handlebars.proofs.Asks.{asks-nothing}
use Rattle.handlebars.proofs.Writing.{not_converted_so}
use Rattle.handlebars.proofs.CallLaws.{obeys_laws}
use Rattle.handlebars.proofs.registry.RegistryOf.render_template.Goals as goal

pub returns-in-Ok-clause-ok : goal.returns-in-Ok-clause-ok
returns-in-Ok-clause-ok g c = IfOk-weaker c.render_template_with_context.result _ _
    (λ text is. (data_of c.in-Ok.ctx, c.in-Ok.ensures.ok, is)) c.render_template_with_context.ensures.ok

pub returns-in-Ok-clause-err : goal.returns-in-Ok-clause-err
returns-in-Ok-clause-err g c = IfErr-weaker c.render_template_with_context.result _ _
    (λ e is other. inr (data_of c.in-Ok.ctx, c.in-Ok.ensures.ok, is other)) c.render_template_with_context.ensures.err

pub returns-in-Err-clause-err : goal.returns-in-Err-clause-err
returns-in-Err-clause-err g c = λ other. inl (not_converted_so _ _ c.in-Err.e c.in-Err.ensures.plain (c.in-Err.ensures.err other), refl)

pub returns-in-Ok-clause-laws : goal.returns-in-Ok-clause-laws
returns-in-Ok-clause-laws g c = obeys_laws g.E.UserParts.registered g.E.UserParts.user c.args.self.now c.satisfies_law.ensures c.args.source.now

pub returns-in-Err-clause-laws : goal.returns-in-Err-clause-laws
returns-in-Err-clause-laws g c = obeys_laws g.E.UserParts.registered g.E.UserParts.user c.args.self.now c.satisfies_law.ensures c.args.source.now

pub returns-in-Err-clause-asks : goal.returns-in-Err-clause-asks
returns-in-Err-clause-asks g c = asks-nothing g.R.TemplateReader.reads c.args.self.now _ c.args.files.now
