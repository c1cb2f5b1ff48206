use Rattle.std.proofs.Common.{refl}
use Rattle.handlebars_base.specs.TemplateRefusals.{template_refusal_of}
use Rattle.handlebars_scope.specs.Contexts.{data_of}
use Rattle.handlebars_template.specs.TreeView.{tree_view}
use Rattle.handlebars.proofs.Asks.{asks-nothing}
use Rattle.handlebars.proofs.WritesRead.{reading-source, reading-uncompiled}
use Rattle.handlebars.proofs.Emitting.{EmitsPieces-begun}
use Rattle.handlebars.specs.PieceCalls.{EmitsPieces, EmittedNothing}
use Rattle.handlebars.proofs.CallLaws.{obeys_laws}
use Rattle.handlebars.proofs.registry.RegistryOf.render_template_pieces.Goals as goal

pub returns-in-Ok-clause-emits : goal.returns-in-Ok-clause-emits
returns-in-Ok-clause-emits g c =
    reading-source EmittedNothing (λ p b. EmitsPieces p b g.O.PieceOutput.may_give) g.E.UserParts.registered g.E.UserParts.user c.args.self.now (data_of c.args.ctx.now) _ _ _ (λ p b one t f l a. EmitsPieces-begun p b one t) _ c.args.source.now (tree_view c.in-Ok.template)
    c.in-Ok.ensures.ok c.emit_compiled.ensures.emits

pub returns-in-Err-clause-emits : goal.returns-in-Err-clause-emits
returns-in-Err-clause-emits g c =
    reading-uncompiled EmittedNothing (λ ts. refl) c.args.self.now _ _ _ c.args.source.now _ (template_refusal_of c.in-Err.e) c.into.result _
    c.in-Err.ensures.err c.into.ensures

pub returns-in-Ok-clause-laws : goal.returns-in-Ok-clause-laws
returns-in-Ok-clause-laws g c = obeys_laws g.E.UserParts.registered g.E.UserParts.user c.args.self.now c.satisfies_law.ensures c.args.source.now

pub returns-in-Err-clause-laws : goal.returns-in-Err-clause-laws
returns-in-Err-clause-laws g c = obeys_laws g.E.UserParts.registered g.E.UserParts.user c.args.self.now c.satisfies_law.ensures c.args.source.now

pub returns-in-Err-clause-asks : goal.returns-in-Err-clause-asks
returns-in-Err-clause-asks g c = asks-nothing g.R.TemplateReader.reads c.args.self.now _ c.args.files.now
