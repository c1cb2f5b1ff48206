use Rattle.std.proofs.Common.{drop, map}
use Rattle.handlebars_html.specs.Check.{findings_of_entered}
use Rattle.handlebars_html.specs.RowsView.{row_of, rows_of}
use Rattle.handlebars_html.specs.SearchView.{included_at, template_of}
use Rattle.handlebars_html.proofs.FoundSoFar.{Accumulates}
use Rattle.handlebars_html.proofs.search.rounds.read_template.Given as goal

abbrev pub invariant-rows : goal.invariant-rows
invariant-rows l =
    Accumulates (rows_of l.table) l.initial.found l.found
    (findings_of_entered (map row_of (drop l.row-index l.rows)) (included_at l.checked (rows_of l.table) (template_of l.named)))
    (findings_of_entered (map row_of l.rows) (included_at l.checked (rows_of l.table) (template_of l.named)))
