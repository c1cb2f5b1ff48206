use Rattle.handlebars.proofs.ReadFiles.{into-nothing}
use Rattle.handlebars.proofs.registry.RegistryOf.read_asked.Goals as goal

pub returns-in-Some-clause-ok : goal.returns-in-Some-clause-ok
returns-in-Some-clause-ok g c = rw c.in-Some.is c.read_remembered.ensures.ok

pub returns-in-Some-clause-err : goal.returns-in-Some-clause-err
returns-in-Some-clause-err g c = rw c.in-Some.is c.read_remembered.ensures.err

pub returns-in-None-clause-ok : goal.returns-in-None-clause-ok
returns-in-None-clause-ok g c = rw c.in-None.is (into-nothing g.R.TemplateReader.reads c.args.self.now.prevent_indent c.args.files.now c.args.trees.now)
