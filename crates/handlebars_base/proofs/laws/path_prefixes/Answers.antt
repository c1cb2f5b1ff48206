use Rattle.handlebars_base.proofs.PathPrefixes.{path_prefixes}
use Rattle.handlebars_base.proofs.laws.path_prefixes.Goals as goal

pub returns : goal.returns
returns c = path_prefixes
