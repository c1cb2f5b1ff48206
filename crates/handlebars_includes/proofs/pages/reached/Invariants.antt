use Rattle.std.proofs.Common.{take}
use Rattle.handlebars_includes.specs.Graph.{MarksReached}
use Rattle.handlebars_includes.specs.View.{rows}
use Rattle.handlebars_includes.proofs.pages.reached.Given as goal

abbrev pub invariant-starts : goal.invariant-starts
invariant-starts l = MarksReached (rows l.graph) (take l.start-index l.starts) l.marks.items
