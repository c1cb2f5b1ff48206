use Rattle.handlebars_html.specs.RowsView.{rows_of}
use Rattle.handlebars_html.specs.SearchView.{AreNeededAt}
use Rattle.handlebars_html.proofs.search.search_rounds.Given as goal

abbrev pub invariant-rounds : goal.invariant-rounds
invariant-rounds l = AreNeededAt l.checked (rows_of l.initial.table) → AreNeededAt l.checked (rows_of l.table)
