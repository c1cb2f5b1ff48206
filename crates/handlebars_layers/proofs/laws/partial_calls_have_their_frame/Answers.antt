use Rattle.handlebars_layers.proofs.Layering.{partial-frame}
use Rattle.handlebars_layers.proofs.laws.partial_calls_have_their_frame.Goals as goal

pub returns : goal.returns
returns c = partial-frame
