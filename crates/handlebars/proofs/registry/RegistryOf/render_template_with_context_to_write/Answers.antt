use Rattle.handlebars_base.specs.TemplateRefusals.{template_refusal_of}
use Rattle.handlebars_scope.specs.Contexts.{data_of}
use Rattle.handlebars_template.specs.TreeView.{tree_view}
use Rattle.handlebars.proofs.Asks.{asks-nothing}
use Rattle.handlebars.proofs.WritesRead.{reading-source, reading-uncompiled}
use Rattle.handlebars.proofs.Writing.{Appends-nothing, Writes-begun}
use Rattle.handlebars.specs.Calls.{AppendsNothing, Writes}
use Rattle.handlebars.proofs.CallLaws.{obeys_laws}
use Rattle.handlebars.proofs.registry.RegistryOf.render_template_with_context_to_write.Goals as goal

pub returns-in-Ok-clause-writes : goal.returns-in-Ok-clause-writes
returns-in-Ok-clause-writes g c =
    reading-source AppendsNothing Writes g.E.UserParts.registered g.E.UserParts.user c.args.self.now (data_of c.args.ctx.now) _ _ _ (λ p b one t f l a. Writes-begun p b one t) _ c.args.source.now (tree_view c.in-Ok.template)
    c.in-Ok.ensures.ok c.write_compiled.ensures.writes

pub returns-in-Err-clause-writes : goal.returns-in-Err-clause-writes
returns-in-Err-clause-writes g c =
    reading-uncompiled AppendsNothing Appends-nothing c.args.self.now _ _ _ c.args.source.now _ (template_refusal_of c.in-Err.e) c.into.result _
    c.in-Err.ensures.err c.into.ensures

pub returns-in-Ok-clause-laws : goal.returns-in-Ok-clause-laws
returns-in-Ok-clause-laws g c = obeys_laws g.E.UserParts.registered g.E.UserParts.user c.args.self.now c.satisfies_law.ensures c.args.source.now

pub returns-in-Err-clause-laws : goal.returns-in-Err-clause-laws
returns-in-Err-clause-laws g c = obeys_laws g.E.UserParts.registered g.E.UserParts.user c.args.self.now c.satisfies_law.ensures c.args.source.now

pub returns-in-Err-clause-asks : goal.returns-in-Err-clause-asks
returns-in-Err-clause-asks g c = asks-nothing g.R.TemplateReader.reads c.args.self.now _ c.args.files.now
