use Rattle.std.proofs.Common.{◌≡◌, drop, map}
use Rattle.handlebars_html.specs.HtmlView.{html_of}
use Rattle.handlebars_html.specs.Rows.{has_entering}
use Rattle.handlebars_html.specs.RowsView.{row_of}
use Rattle.handlebars_html.proofs.rows.Table.place_of.Given as goal

abbrev pub invariant-rows : goal.invariant-rows
invariant-rows l =
    has_entering (map row_of (drop l.place l.row-items)) l.name (html_of l.state)
    ≡ has_entering (map row_of l.self.rows.items) l.name (html_of l.state)
