use Rattle.std.proofs.Common.{◌∷◌, [], Ok, ap, ◌∙◌}
use Rattle.handlebars.specs.Dev.{file_at}
use Rattle.handlebars.proofs.ReadFiles.{into-along, fails-along, into-nothing, source_path-off}
use Rattle.handlebars.proofs.registry.RegistryOf.read_remembered.Goals as goal

pub returns-in-Some-clause-ok : goal.returns-in-Some-clause-ok
returns-in-Some-clause-ok g c = into-along g.R.TemplateReader.reads c.args.self.now.prevent_indent c.args.files.now c.read_into.new.files c.args.trees.now c.read_into.new.trees c.read_into.result
    (ap (λ z. (c.args.name.now, z) ∷ []) c.as_str.ensures.value ∙ ap (file_at c.args.name.now) (rw c.in-Some.is at c.path.ensures))
    c.read_into.ensures.ok

pub returns-in-Some-clause-err : goal.returns-in-Some-clause-err
returns-in-Some-clause-err g c = fails-along g.R.TemplateReader.reads c.args.self.now.prevent_indent c.args.files.now c.read_into.new.files c.read_into.result
    (ap (λ z. (c.args.name.now, z) ∷ []) c.as_str.ensures.value ∙ ap (file_at c.args.name.now) (rw c.in-Some.is at c.path.ensures))
    c.read_into.ensures.err

pub returns-in-Some-clause-unread : goal.returns-in-Some-clause-unread
returns-in-Some-clause-unread g c = λ off. absurd (source_path-off c.args.self.now.dev.paths c.args.name.now _ off (rw c.in-Some.is at c.path.ensures))

pub returns-in-None-clause-ok : goal.returns-in-None-clause-ok
returns-in-None-clause-ok g c = into-along g.R.TemplateReader.reads c.args.self.now.prevent_indent c.args.files.now c.args.files.now c.args.trees.now c.args.trees.now (Ok tt)
    (ap (file_at c.args.name.now) (rw c.in-None.is at c.path.ensures)) (into-nothing g.R.TemplateReader.reads c.args.self.now.prevent_indent c.args.files.now c.args.trees.now)
