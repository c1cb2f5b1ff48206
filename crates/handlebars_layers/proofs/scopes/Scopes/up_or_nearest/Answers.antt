use Rattle.handlebars_layers.specs.Destination.{frames_in}
use Rattle.handlebars_layers.proofs.Frames.{up-none-out}
use Rattle.handlebars_layers.proofs.scopes.Scopes.up_or_nearest.Goals as goal

pub returns-then-count-eq0-clause-frames : goal.returns-then-count-eq0-clause-frames
returns-then-count-eq0-clause-frames c = up-none-out (frames_in c.args.self) c.args.count c.if-count-eq0.true
