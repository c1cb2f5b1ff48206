use Rattle.std.proofs.Common.{List, ◌+◌, map, drop, sym, ap, ◌∙◌}
use Rattle.handlebars_html.specs.Check.{each_once}
use Rattle.handlebars_html.specs.FoundView.{collected, found_of}
use Rattle.handlebars_html.specs.RowsView.{rows_of}
use Rattle.handlebars_html.specs.Search.{template_findings, templates_findings}
use Rattle.handlebars_html.specs.SearchView.{template_of, user_at}
use Rattle.handlebars_html.specs.declared.search.NamedTemplate.{NamedTemplate}
use Rattle.handlebars_html.proofs.FoundSoFar.{read}
use Rattle.handlebars_html.proofs.Searching.{collects-go}
use Rattle.handlebars_html.proofs.search.rounds.collect_templates.Goals as goal

pub templates-preserved : goal.templates-preserved
templates-preserved c =
    let u = user_at c.args.checked in
    let rows = rows_of c.args.table.now in
    let ts = c.args.checked.templates.now in
    let i = c.templates.named-index in
    let found = λ (zs : List NamedTemplate). templates_findings u rows (map template_of zs) in
    collects-go rows c.args.found.now c.templates.found c.collect_template.new.found
    (each_once (template_findings u rows (template_of c.named-item.result))) (found (drop (i + 1) ts)) (found ts)
    (sym (ap (λ (zs : List NamedTemplate). collected rows (found_of c.templates.found) (found zs))
    (read ts i c.named-item.result c.templates-test.true c.named-item.is)) ∙ c.templates.invariant)
    c.in_ok-collect_template.ensures
