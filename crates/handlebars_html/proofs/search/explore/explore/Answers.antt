use Rattle.std.proofs.Common.{List, map, sym, subst}
use Rattle.handlebars_html.specs.Rows as rows
use Rattle.handlebars_html.specs.RowsView.{row_of, rows_of}
use Rattle.handlebars_html.specs.SearchView.{AreNeededAt, pages_at, templates_at, user_at}
use Rattle.handlebars_html.proofs.Rounds.{needed-with}
use Rattle.handlebars_html.proofs.search.explore.explore.Goals as goal

pub readings-preserved : goal.readings-preserved
readings-preserved c = λ needed.
    let before = c.readings.invariant needed in
    subst (λ (zs : List rows.Row). AreNeededAt c.args.checked zs)
    (sym (rw c.into_rows.ensures at c.in_ok-add_rows.ensures))
    (needed-with (user_at c.args.checked) (templates_at c.args.checked) (pages_at c.args.checked) (rows_of c.readings.table)
    (map row_of c.in_ok-found.found.rows.items) before (c.in_ok-found.ensures before))
