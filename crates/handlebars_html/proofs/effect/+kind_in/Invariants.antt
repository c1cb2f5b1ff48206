use Rattle.std.proofs.Common.{length}
use Rattle.handlebars_html.proofs.effect.+kind_in.Given as goal

abbrev pub decreases-kind_in : goal.decreases-kind_in
decreases-kind_in l = length l.rows.now
