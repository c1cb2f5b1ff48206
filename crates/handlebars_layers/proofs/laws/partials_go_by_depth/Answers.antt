use Rattle.handlebars_layers.proofs.ScopeFrames.{enters-frame, enters-with-none, finds-by-depth, leaves-outer, sets-by-depth}
use Rattle.handlebars_layers.proofs.laws.partials_go_by_depth.Goals as goal

pub returns-clause-found : goal.returns-clause-found
returns-clause-found c = finds-by-depth

pub returns-clause-set : goal.returns-clause-set
returns-clause-set c = sets-by-depth

pub returns-clause-entered : goal.returns-clause-entered
returns-clause-entered c = enters-with-none

pub returns-clause-frame : goal.returns-clause-frame
returns-clause-frame c = enters-frame

pub returns-clause-outer : goal.returns-clause-outer
returns-clause-outer c = leaves-outer
