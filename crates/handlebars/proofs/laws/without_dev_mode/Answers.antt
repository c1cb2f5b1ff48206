use Rattle.handlebars.proofs.WithoutDev.{holds-own, nothing-read}
use Rattle.handlebars.proofs.laws.without_dev_mode.Goals as goal

pub returns-clause-unread : goal.returns-clause-unread
returns-clause-unread g c = λ plain asked before after read end off w.
    nothing-read plain asked off g.R.TemplateReader.reads before after read end w

pub returns-clause-stored : goal.returns-clause-stored
returns-clause-stored g c = λ plain. holds-own plain
