use Rattle.handlebars.proofs.ReadFiles.{fails-rendering}
use Rattle.handlebars.proofs.registry.RegistryOf.read_for.Goals as goal

pub returns-in-Err-clause-err : goal.returns-in-Err-clause-err
returns-in-Err-clause-err g c =
    fails-rendering c.in-Err.e c.from.result c.from.ensures.refusal c.from.ensures.cause g.R.TemplateReader.reads c.in-Err.ensures.err
