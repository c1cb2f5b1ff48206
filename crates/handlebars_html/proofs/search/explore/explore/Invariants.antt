use Rattle.handlebars_html.specs.RowsView.{rows_of}
use Rattle.handlebars_html.specs.SearchView.{AreNeededAt}
use Rattle.handlebars_html.proofs.search.explore.explore.Given as goal

abbrev pub invariant-readings : goal.invariant-readings
invariant-readings l =
    AreNeededAt l.checked (rows_of l.initial.table) → AreNeededAt l.checked (rows_of l.table)
