use Rattle.std.proofs.Common.{map}
use Rattle.handlebars_includes.specs.Circles.{CirclesBefore}
use Rattle.handlebars_includes.specs.View.{rows, tag_of}
use Rattle.handlebars_includes.proofs.circles.circles_in.Given as goal

abbrev pub invariant-graph : goal.invariant-graph
invariant-graph l = CirclesBefore (rows l.graph) l.template (map tag_of l.found.items)
