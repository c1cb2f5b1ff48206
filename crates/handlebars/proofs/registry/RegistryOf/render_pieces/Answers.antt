use Rattle.std.proofs.Common.{refl}
use Rattle.handlebars_scope.specs.Contexts.{data_of}
use Rattle.handlebars.proofs.WritesRead.{reading-by-name, reading-rejected}
use Rattle.handlebars.specs.PieceCalls.{EmitsPieces, EmittedNothing}
use Rattle.handlebars.proofs.CallLaws.{obeys_laws_by_name}
use Rattle.handlebars.proofs.registry.RegistryOf.render_pieces.Goals as goal

pub returns-in-Ok-clause-emits : goal.returns-in-Ok-clause-emits
returns-in-Ok-clause-emits g c =
    reading-by-name EmittedNothing (λ p b. EmitsPieces p b g.O.PieceOutput.may_give) g.E.UserParts.registered g.E.UserParts.user c.args.self.now (data_of c.args.ctx.now) _ _ _ c.in-Ok.read c.args.name.now c.in-Ok.ensures.ok
    c.emit_named.ensures

pub returns-in-Err-clause-emits : goal.returns-in-Err-clause-emits
returns-in-Err-clause-emits g c = reading-rejected EmittedNothing (λ ts. refl) c.args.self.now _ _ _ _ _ c.in-Err.e _ c.in-Err.ensures.err

pub returns-in-Ok-clause-laws : goal.returns-in-Ok-clause-laws
returns-in-Ok-clause-laws g c = obeys_laws_by_name g.E.UserParts.registered g.E.UserParts.user c.args.self.now c.satisfies_law.ensures c.args.name.now

pub returns-in-Err-clause-laws : goal.returns-in-Err-clause-laws
returns-in-Err-clause-laws g c = obeys_laws_by_name g.E.UserParts.registered g.E.UserParts.user c.args.self.now c.satisfies_law.ensures c.args.name.now
