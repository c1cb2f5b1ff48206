use Rattle.std.proofs.Common.{None}
use Rattle.handlebars.specs.View.{options_of}
use Rattle.handlebars.proofs.HtmlRead.{source-judged}
use Rattle.handlebars.proofs.registry.RegistryOf.template_html_is_safe.Goals as goal

pub returns-in-Ok-clause-ok : goal.returns-in-Ok-clause-ok
returns-in-Ok-clause-ok g c =
    source-judged g.E.UserParts.registered g.E.UserParts.user c.args.self.now g.R.TemplateReader.reads None _ _
    (options_of c.args.self.now) c.args.source.now c.in-Ok.verdict _ c.safety_of.ensures c.in-Ok.ensures.ok
