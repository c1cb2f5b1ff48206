use Rattle.std.proofs.Common.{sym, ◌∙◌}
use Rattle.handlebars.proofs.MetPremises.{same_list, same_read}
use Rattle.handlebars.proofs.OneReading.{read-once}
use Rattle.handlebars.proofs.OneWalk.{walk-once}
use Rattle.handlebars.proofs.laws.one_reading.Goals as goal

pub returns-clause-files : goal.returns-clause-files
returns-clause-files g c = λ one prevents files before. read-once g.R.TemplateReader.reads one prevents files before

pub returns-clause-folder : goal.returns-clause-folder
returns-clause-folder g c = λ one lists prevents choice task before.
    walk-once g.R.TemplateReader.reads g.R.TemplateReader.lists one lists prevents choice task before

pub returns-clause-no_files : goal.returns-clause-no_files
returns-clause-no_files g c = λ path s t u a b h k. (same_read _ a b h.0 k.0, h.1 ∙ sym k.1)

pub returns-clause-no_folders : goal.returns-clause-no_folders
returns-clause-no_folders g c = λ path s t u a b h k. (same_list _ a b h.0 k.0, h.1 ∙ sym k.1)
