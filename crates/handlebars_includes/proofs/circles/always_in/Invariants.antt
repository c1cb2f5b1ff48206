use Rattle.std.proofs.Common.{◌≡◌, ◌++◌, drop}
use Rattle.handlebars_includes.specs.Circles.{always_in}
use Rattle.handlebars_includes.specs.View.{rows}
use Rattle.handlebars_includes.proofs.circles.always_in.Given as goal

abbrev pub invariant-graph : goal.invariant-graph
invariant-graph l = rows l.always.items ++ always_in (rows (drop l.inclusions-index l.graph)) ≡ always_in (rows l.graph)
