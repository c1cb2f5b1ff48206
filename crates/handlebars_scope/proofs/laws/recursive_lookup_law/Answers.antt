use Rattle.handlebars_scope.proofs.Prefixes.{takes_longest}
use Rattle.handlebars_scope.proofs.laws.recursive_lookup_law.Goals as goal

pub returns : goal.returns
returns c = takes_longest
