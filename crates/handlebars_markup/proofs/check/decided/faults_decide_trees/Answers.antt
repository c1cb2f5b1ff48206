use Rattle.handlebars_markup.proofs.Faults.{decide_trees}
use Rattle.handlebars_markup.proofs.check.decided.faults_decide_trees.Goals as goal

pub returns : goal.returns
returns c = decide_trees
