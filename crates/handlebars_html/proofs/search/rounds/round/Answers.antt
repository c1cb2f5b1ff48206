use Rattle.std.proofs.Common.{ap, ◌∙◌}
use Rattle.handlebars_html.specs.Check.{Findings, both_findings, each_once, found_faults}
use Rattle.handlebars_html.specs.FoundView.{collected}
use Rattle.handlebars_html.specs.Registry.{faults_of_registry}
use Rattle.handlebars_html.specs.RowsView.{rows_of}
use Rattle.handlebars_html.specs.Search.{pages_findings, templates_findings}
use Rattle.handlebars_html.specs.SearchView.{pages_at, round_at, templates_at, user_at}
use Rattle.handlebars_html.proofs.Searching.{collects-both}
use Rattle.handlebars_html.proofs.search.rounds.round.Goals as goal

pub returns : goal.returns
returns c =
    let u = user_at c.args.checked in
    let rows = rows_of c.args.table.now in
    let templates = templates_at c.args.checked in
    let pages = each_once (pages_findings u rows templates (pages_at c.args.checked)) in
    let parts = found_faults (faults_of_registry u) in
    let others = templates_findings u rows templates in
    collects-both rows c.new-found.result c.collect_pages.new.found c.collect_templates.new.found pages
    (both_findings parts others) c.in_ok-collect_pages.ensures
    (collects-both rows c.collect_pages.new.found c.add_faults_of_parts.new.found c.collect_templates.new.found parts others
    c.in_ok-add_faults_of_parts.ensures c.in_ok-collect_templates.ensures)
    ∙ ap (λ (z : Findings). collected rows z (round_at c.args.checked rows)) c.new-found.ensures
