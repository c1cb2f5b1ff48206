use Rattle.std.proofs.Common.{length}
use Rattle.handlebars_names.proofs.scope.+are_among.Given as goal

abbrev pub decreases-are_among : goal.decreases-are_among
decreases-are_among l = length l.names.now
