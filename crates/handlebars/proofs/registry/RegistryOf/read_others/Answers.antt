use Rattle.std.proofs.Common.{Ok, option_map, ap, ◌∙◌}
use Rattle.std.specs.Prelude.{is_some}
use Rattle.handlebars.specs.Dev.{others}
use Rattle.handlebars.specs.Files.{files_in}
use Rattle.handlebars.proofs.ReadFiles.{into-along, fails-along, into-nothing}
use Rattle.handlebars.proofs.registry.RegistryOf.read_others.Goals as goal

pub returns-in-Some-clause-ok : goal.returns-in-Some-clause-ok
returns-in-Some-clause-ok g c = into-along g.R.TemplateReader.reads c.args.self.now.prevent_indent c.args.files.now c.read_all_but.new.files c.args.trees.now c.read_all_but.new.trees c.read_all_but.result
    (ap (λ ps. others (option_map (λ s. s.now) c.args.asked) (files_in ps)) (rw c.in-Some.is at c.paths.ensures)) c.read_all_but.ensures.ok

pub returns-in-Some-clause-err : goal.returns-in-Some-clause-err
returns-in-Some-clause-err g c = fails-along g.R.TemplateReader.reads c.args.self.now.prevent_indent c.args.files.now c.read_all_but.new.files c.read_all_but.result
    (ap (λ ps. others (option_map (λ s. s.now) c.args.asked) (files_in ps)) (rw c.in-Some.is at c.paths.ensures)) c.read_all_but.ensures.err

pub returns-in-Some-clause-unread : goal.returns-in-Some-clause-unread
returns-in-Some-clause-unread g c = λ off.
    let on = ap is_some (rw c.in-Some.is at c.paths.ensures) ∙ off in cc

pub returns-in-None-clause-ok : goal.returns-in-None-clause-ok
returns-in-None-clause-ok g c = into-along g.R.TemplateReader.reads c.args.self.now.prevent_indent c.args.files.now c.args.files.now c.args.trees.now c.args.trees.now (Ok tt)
    (ap (λ ps. others (option_map (λ s. s.now) c.args.asked) (files_in ps)) (rw c.in-None.is at c.paths.ensures)) (into-nothing g.R.TemplateReader.reads c.args.self.now.prevent_indent c.args.files.now c.args.trees.now)
