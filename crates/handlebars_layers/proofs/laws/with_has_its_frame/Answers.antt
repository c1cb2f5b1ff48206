use Rattle.handlebars_layers.proofs.Layering.{with-frame}
use Rattle.handlebars_layers.proofs.laws.with_has_its_frame.Goals as goal

pub returns : goal.returns
returns c = with-frame
