use Rattle.std.proofs.Common.{List, map, ap, ◌∙◌, Some}
use Rattle.std.proofs.lemmas.Result.{on_ok_weaker}
use Rattle.handlebars_template.specs.TreeView.{tree_view}
use Rattle.handlebars_html.specs.Check as check
use Rattle.handlebars_html.specs.HtmlView.{html_of}
use Rattle.handlebars_html.specs.Registry.{registered_in}
use Rattle.handlebars_html.specs.RowsView.{rows_of}
use Rattle.handlebars_html.specs.SearchView.{template_at, user_at}
use Rattle.handlebars_html.specs.declared.html.Html.{Html}
use Rattle.handlebars_html.proofs.FoundSoFar.{ends-same}
use Rattle.handlebars_html.proofs.TreeEnds.{entering-out}
use Rattle.handlebars_html.proofs.search.readings.read_at.Goals as goal

pub returns : goal.returns
returns c =
    let rows = rows_of c.args.table.now in
    let h = html_of c.args.state.now in
    let ends = check.tree_ends (registered_in (user_at c.args.checked)) rows (Some c.args.named.name.now)
    (tree_view c.args.named.template.now) in
    on_ok_weaker c.add_leavings.result (λ added. entering-out rows (template_at c.args.checked rows c.args.named h) c.args.found.now c.tree_ends.new.found
    c.add_leavings.new.found c.in_ok-ends.ends.items c.deref-2.result.now
    (ends-same rows c.args.found.now c.tree_ends.new.found c.in_ok-ends.ends.items _ _
    (ap (λ (zs : List Html). ends (map html_of zs)) c.deref.ensures.value ∙ ap ends c.in_ok-start.ensures) c.in_ok-ends.ensures)
    c.deref-2.ensures.value c.args.named.name.now h added) c.add_leavings.ensures
