use Rattle.handlebars_template.proofs.Stays.{trees_stay}
use Rattle.handlebars_template.proofs.laws.trees_stay.Goals as goal

pub returns : goal.returns
returns c = trees_stay
