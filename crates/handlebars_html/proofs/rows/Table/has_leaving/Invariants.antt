use Rattle.std.proofs.Common.{◌≡◌, drop, map}
use Rattle.handlebars_html.specs.HtmlView.{html_of}
use Rattle.handlebars_html.specs.Rows.{is_among, leaving_states}
use Rattle.handlebars_html.specs.RowsView.{row_of}
use Rattle.handlebars_html.proofs.rows.Table.has_leaving.Given as goal

abbrev pub invariant-rows : goal.invariant-rows
invariant-rows l =
    is_among (leaving_states (map row_of (drop l.row-index l.self.rows.items)) l.name (html_of l.state)) (html_of l.end)
    ≡ is_among (leaving_states (map row_of l.self.rows.items) l.name (html_of l.state)) (html_of l.end)
