use Rattle.std.proofs.Common.{None}
use Rattle.handlebars.specs.Markup.{NoSource}
use Rattle.handlebars.proofs.MarkupRead.{judged}
use Rattle.handlebars.proofs.registry.RegistryOf.markup_is_fixed.Goals as goal

pub returns-in-Ok-clause-ok : goal.returns-in-Ok-clause-ok
returns-in-Ok-clause-ok g c =
    judged g.E.UserParts.registered g.E.UserParts.user c.args.self.now g.R.TemplateReader.reads None _ _ NoSource c.in-Ok.faults.items _
    c.first_of.ensures c.in-Ok.ensures.ok
