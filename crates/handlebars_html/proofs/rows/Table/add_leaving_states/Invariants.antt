use Rattle.std.proofs.Common.{◌≡◌, drop, map}
use Rattle.handlebars_html.specs.HtmlView.{html_of}
use Rattle.handlebars_html.specs.Rows.{with_states, leaving_states}
use Rattle.handlebars_html.specs.RowsView.{row_of}
use Rattle.handlebars_html.proofs.rows.Table.add_leaving_states.Given as goal

abbrev pub invariant-rows : goal.invariant-rows
invariant-rows l =
    with_states (map html_of l.ends.items) (leaving_states (map row_of (drop l.row-index l.self.rows.items)) l.name (html_of l.state))
    ≡ with_states (map html_of l.initial.ends.items) (leaving_states (map row_of l.self.rows.items) l.name (html_of l.state))
