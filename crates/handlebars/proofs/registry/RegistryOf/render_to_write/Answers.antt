use Rattle.std.proofs.Common.{refl}
use Rattle.handlebars.specs.Calls.{converted}
use Rattle.handlebars.proofs.Asks.{asks-nothing}
use Rattle.handlebars.proofs.Writing.{writes_unconverted}
use Rattle.handlebars.proofs.CallLaws.{obeys_laws_by_name}
use Rattle.handlebars.proofs.registry.RegistryOf.render_to_write.Goals as goal

pub returns-in-Ok-clause-writes : goal.returns-in-Ok-clause-writes
returns-in-Ok-clause-writes g c = converted c.in-Ok.ensures.ok c.render_with_context_to_write.ensures.writes

pub returns-in-Err-clause-writes : goal.returns-in-Err-clause-writes
returns-in-Err-clause-writes g c = writes_unconverted _ _ c.in-Err.e _ c.in-Err.ensures.plain c.in-Err.ensures.err refl

pub returns-in-Ok-clause-laws : goal.returns-in-Ok-clause-laws
returns-in-Ok-clause-laws g c = obeys_laws_by_name g.E.UserParts.registered g.E.UserParts.user c.args.self.now c.satisfies_law.ensures c.args.name.now

pub returns-in-Err-clause-laws : goal.returns-in-Err-clause-laws
returns-in-Err-clause-laws g c = obeys_laws_by_name g.E.UserParts.registered g.E.UserParts.user c.args.self.now c.satisfies_law.ensures c.args.name.now

pub returns-in-Err-clause-asks : goal.returns-in-Err-clause-asks
returns-in-Err-clause-asks g c = asks-nothing g.R.TemplateReader.reads c.args.self.now _ c.args.files.now
