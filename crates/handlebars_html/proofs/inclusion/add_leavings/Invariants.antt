use Rattle.std.proofs.Common.{drop, map}
use Rattle.handlebars_html.specs.Check.{found_rows}
use Rattle.handlebars_html.specs.HtmlView.{html_of}
use Rattle.handlebars_html.specs.ReadingView.{rows_at}
use Rattle.handlebars_html.specs.Rows.{leavings}
use Rattle.handlebars_html.proofs.FoundSoFar.{Accumulates}
use Rattle.handlebars_html.proofs.inclusion.add_leavings.Given as goal

abbrev pub invariant-ends : goal.invariant-ends
invariant-ends l =
    Accumulates (rows_at l.reading) l.initial.found l.found
    (found_rows (leavings l.name (html_of l.state) (map html_of (drop l.end-index l.ends))))
    (found_rows (leavings l.name (html_of l.state) (map html_of l.ends)))
