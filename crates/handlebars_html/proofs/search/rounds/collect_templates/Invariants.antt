use Rattle.std.proofs.Common.{drop, map}
use Rattle.handlebars_html.specs.RowsView.{rows_of}
use Rattle.handlebars_html.specs.Search.{templates_findings}
use Rattle.handlebars_html.specs.SearchView.{template_of, user_at}
use Rattle.handlebars_html.proofs.Searching.{CollectsFrom}
use Rattle.handlebars_html.proofs.search.rounds.collect_templates.Given as goal

abbrev pub invariant-templates : goal.invariant-templates
invariant-templates l =
    CollectsFrom (rows_of l.table) l.initial.found l.found
    (templates_findings (user_at l.checked) (rows_of l.table) (map template_of (drop l.named-index l.named-items)))
    (templates_findings (user_at l.checked) (rows_of l.table) (map template_of l.named-items))
