use Rattle.handlebars_html.proofs.SameStates.{decides_same}
use Rattle.handlebars_html.proofs.laws.same_is_decided.Goals as goal

pub returns : goal.returns
returns c = decides_same
