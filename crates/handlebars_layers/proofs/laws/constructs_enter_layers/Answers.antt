use Rattle.handlebars_layers.proofs.Entering.{enters-inclusion, enters-iterations, enters-next-iteration, enters-with}
use Rattle.handlebars_layers.proofs.laws.constructs_enter_layers.Goals as goal

pub returns-clause-iterations : goal.returns-clause-iterations
returns-clause-iterations c = enters-iterations

pub returns-clause-next : goal.returns-clause-next
returns-clause-next c = enters-next-iteration

pub returns-clause-with : goal.returns-clause-with
returns-clause-with c = enters-with

pub returns-clause-inclusion : goal.returns-clause-inclusion
returns-clause-inclusion c = enters-inclusion
