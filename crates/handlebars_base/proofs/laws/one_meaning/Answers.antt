use Rattle.handlebars_base.proofs.PathShapes.{one_meaning}
use Rattle.handlebars_base.proofs.laws.one_meaning.Goals as goal

pub returns : goal.returns
returns c = one_meaning
