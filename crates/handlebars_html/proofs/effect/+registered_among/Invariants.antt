use Rattle.std.proofs.Common.{length}
use Rattle.handlebars_html.proofs.effect.+registered_among.Given as goal

abbrev pub decreases-registered_among : goal.decreases-registered_among
decreases-registered_among l = length l.helpers.now
