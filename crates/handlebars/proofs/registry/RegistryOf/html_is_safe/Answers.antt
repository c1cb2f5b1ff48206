use Rattle.std.proofs.Common.{None}
use Rattle.handlebars.proofs.HtmlRead.{judged}
use Rattle.handlebars.proofs.registry.RegistryOf.html_is_safe.Goals as goal

pub returns-in-Ok-clause-ok : goal.returns-in-Ok-clause-ok
returns-in-Ok-clause-ok g c =
    judged g.E.UserParts.registered g.E.UserParts.user c.args.self.now g.R.TemplateReader.reads None _ _ c.in-Ok.verdict _
    c.safety_of.ensures c.in-Ok.ensures.ok
