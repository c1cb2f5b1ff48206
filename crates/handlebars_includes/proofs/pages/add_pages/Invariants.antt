use Rattle.std.proofs.Common.{List, ℕ}
use Rattle.handlebars_includes.specs.Graph.{AddsPages, MarksReached}
use Rattle.handlebars_includes.specs.View.{rows}
use Rattle.handlebars_includes.proofs.pages.add_pages.Given as goal

abbrev pub invariant-templates : goal.invariant-templates
invariant-templates l =
    MarksReached (rows l.graph) l.initial.pages.items l.initial.marks.items → MarksReached (rows l.graph) l.pages.items l.marks.items
    × ((all : List ℕ) → AddsPages (rows l.graph) l.index l.pages.items all → AddsPages (rows l.graph) 0 l.initial.pages.items all)
