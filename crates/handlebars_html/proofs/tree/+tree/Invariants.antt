use Rattle.std.proofs.Common.{drop, map}
use Rattle.handlebars_template.specs.Tree.{call_body}
use Rattle.handlebars_template.specs.TreeView.{call_view, decorator_view, position_of}
use Rattle.handlebars_template.specs.declared.template.tree.Template.{out-Template}
use Rattle.handlebars_html.specs.Check.{findings_of_each, findings_of_entered}
use Rattle.handlebars_html.specs.HtmlView.{html_of}
use Rattle.handlebars_html.specs.ReadingView.{registered_at, rows_at, name_at, iteration_at, inline_at}
use Rattle.handlebars_html.specs.RowsView.{row_of}
use Rattle.handlebars_html.proofs.FoundSoFar.{Accumulates}
use Rattle.handlebars_html.proofs.TreeEnds.{ElementsFrom}
use Rattle.handlebars_html.proofs.tree.+tree.Given as goal

abbrev pub invariant-tree_ends-elements : goal.invariant-tree_ends-elements
invariant-tree_ends-elements l =
    ElementsFrom (registered_at l.reading) (rows_at l.reading) (name_at l.reading)
    (map position_of (out-Template l.template).mapping.items) l.element-items (map html_of l.states) l.index l.ends.items
    l.initial.found l.found

abbrev pub invariant-iterate-states : goal.invariant-iterate-states
invariant-iterate-states l =
    Accumulates (rows_at l.reading) l.initial.found l.found
    (findings_of_each (iteration_at l.reading (call_body (call_view l.call))) (map html_of (drop l.state-index l.states)))
    (findings_of_each (iteration_at l.reading (call_body (call_view l.call))) (map html_of l.states))

abbrev pub invariant-decorator_ends-rows : goal.invariant-decorator_ends-rows
invariant-decorator_ends-rows l =
    Accumulates (rows_at l.reading) l.initial.found l.found
    (findings_of_entered (map row_of (drop l.row-index l.rows)) (inline_at l.reading (decorator_view l.tag)))
    (findings_of_entered (map row_of l.rows) (inline_at l.reading (decorator_view l.tag)))
