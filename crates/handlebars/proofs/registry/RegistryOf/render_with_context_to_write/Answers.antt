use Rattle.handlebars_scope.specs.Contexts.{data_of}
use Rattle.handlebars.proofs.WritesRead.{reading-by-name, reading-rejected}
use Rattle.handlebars.proofs.Writing.{Appends-nothing}
use Rattle.handlebars.specs.Calls.{AppendsNothing, Writes}
use Rattle.handlebars.proofs.CallLaws.{obeys_laws_by_name}
use Rattle.handlebars.proofs.registry.RegistryOf.render_with_context_to_write.Goals as goal

pub returns-in-Ok-clause-writes : goal.returns-in-Ok-clause-writes
returns-in-Ok-clause-writes g c =
    reading-by-name AppendsNothing Writes g.E.UserParts.registered g.E.UserParts.user c.args.self.now (data_of c.args.ctx.now) _ _ _ c.in-Ok.read c.args.name.now c.in-Ok.ensures.ok
    c.write_named.ensures

pub returns-in-Err-clause-writes : goal.returns-in-Err-clause-writes
returns-in-Err-clause-writes g c = reading-rejected AppendsNothing Appends-nothing c.args.self.now _ _ _ _ _ c.in-Err.e _ c.in-Err.ensures.err

pub returns-in-Ok-clause-laws : goal.returns-in-Ok-clause-laws
returns-in-Ok-clause-laws g c = obeys_laws_by_name g.E.UserParts.registered g.E.UserParts.user c.args.self.now c.satisfies_law.ensures c.args.name.now

pub returns-in-Err-clause-laws : goal.returns-in-Err-clause-laws
returns-in-Err-clause-laws g c = obeys_laws_by_name g.E.UserParts.registered g.E.UserParts.user c.args.self.now c.satisfies_law.ensures c.args.name.now
