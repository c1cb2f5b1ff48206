use Rattle.handlebars_includes.specs.View.{rows}
use Rattle.handlebars_includes.proofs.Paged.{Including}
use Rattle.handlebars_includes.proofs.pages.included.Given as goal

abbrev pub invariant-graph : goal.invariant-graph
invariant-graph l = Including (rows l.graph) l.index l.marks.items
