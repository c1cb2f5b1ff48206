use Rattle.std.proofs.Common.{length}
use Rattle.handlebars_includes.proofs.frame.+hiding.Given as goal

abbrev pub decreases-hiding : goal.decreases-hiding
decreases-hiding l = length l.frames.now
