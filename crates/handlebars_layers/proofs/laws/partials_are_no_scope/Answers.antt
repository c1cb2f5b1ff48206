use Rattle.handlebars_layers.proofs.ScopeFrames.{ignore-partials, variables-ignore-partials}
use Rattle.handlebars_layers.proofs.laws.partials_are_no_scope.Goals as goal

pub returns-clause-paths : goal.returns-clause-paths
returns-clause-paths c = ignore-partials

pub returns-clause-variables : goal.returns-clause-variables
returns-clause-variables c = variables-ignore-partials
