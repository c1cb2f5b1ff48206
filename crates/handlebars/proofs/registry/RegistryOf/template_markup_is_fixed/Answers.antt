use Rattle.std.proofs.Common.{None}
use Rattle.handlebars_semantics.specs.Answer.{FromSource}
use Rattle.handlebars.specs.View.{options_of}
use Rattle.handlebars.proofs.MarkupRead.{judged}
use Rattle.handlebars.proofs.registry.RegistryOf.template_markup_is_fixed.Goals as goal

pub returns-in-Ok-clause-ok : goal.returns-in-Ok-clause-ok
returns-in-Ok-clause-ok g c =
    judged g.E.UserParts.registered g.E.UserParts.user c.args.self.now g.R.TemplateReader.reads None _ _
    (FromSource (options_of c.args.self.now) c.args.source.now) c.in-Ok.faults.items _ c.first_of.ensures c.in-Ok.ensures.ok
