use Rattle.handlebars_markup.proofs.Faults.{decide_parts}
use Rattle.handlebars_markup.proofs.check.decided.faults_decide_parts.Goals as goal

pub returns : goal.returns
returns c = decide_parts
