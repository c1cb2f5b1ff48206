use Rattle.std.proofs.Common.{drop, map}
use Rattle.handlebars_html.specs.Check.{found_rows}
use Rattle.handlebars_html.specs.Html.{beginning}
use Rattle.handlebars_html.specs.Rows.{entering}
use Rattle.handlebars_html.specs.RowsView.{rows_of}
use Rattle.handlebars_html.specs.SearchView.{template_of}
use Rattle.handlebars_html.proofs.FoundSoFar.{Accumulates}
use Rattle.handlebars_html.proofs.search.readings.enter_templates.Given as goal

abbrev pub invariant-templates : goal.invariant-templates
invariant-templates l =
    Accumulates (rows_of l.table) l.initial.found l.found
    (found_rows (map (λ x. entering x.0 beginning) (map template_of (drop l.named-index l.named-items))))
    (found_rows (map (λ x. entering x.0 beginning) (map template_of l.named-items)))
