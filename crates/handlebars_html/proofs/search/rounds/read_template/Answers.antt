use Rattle.std.proofs.Common.{List, map, refl}
use Rattle.handlebars_html.specs.Check.{findings_of_row, findings_of_entered}
use Rattle.handlebars_html.specs.RowsView.{row_of, rows_of}
use Rattle.handlebars_html.specs.SearchView.{included_at, template_of}
use Rattle.handlebars_html.specs.declared.rows.Row.{Row}
use Rattle.handlebars_html.proofs.FoundSoFar.{accumulates-each}
use Rattle.handlebars_html.proofs.search.rounds.read_template.Goals as goal

pub rows-preserved : goal.rows-preserved
rows-preserved c =
    let rows = rows_of c.args.table.now in
    let f = included_at c.args.checked rows (template_of c.args.named) in
    accumulates-each rows (λ (z : Row). findings_of_row (row_of z) f) (λ (zs : List Row). findings_of_entered (map row_of zs) f)
    (λ z zs. refl) c.rows-rows.result.now c.rows.row-index c.row-item.result c.args.found.now c.rows.found
    c.read_by_row.new.found c.rows-test.true c.row-item.is c.rows.invariant c.in_ok-read_by_row.ensures
