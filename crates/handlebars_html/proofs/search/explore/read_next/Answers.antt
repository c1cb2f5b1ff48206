use Rattle.handlebars_html.specs.RowsView.{rows_of}
use Rattle.handlebars_html.specs.Search.{pages_findings}
use Rattle.handlebars_html.specs.SearchView.{pages_at, templates_at, user_at}
use Rattle.handlebars_html.proofs.NeededRows.{needed-part}
use Rattle.handlebars_html.proofs.Rounds.{needed-pages}
use Rattle.handlebars_html.proofs.search.explore.read_next.Goals as goal

pub returns-in_ok-read_pages-in-None : goal.returns-in_ok-read_pages-in-None
returns-in_ok-read_pages-in-None c = λ needed.
    let u = user_at c.args.checked in
    let templates = templates_at c.args.checked in
    let pages = pages_at c.args.checked in
    let rows = rows_of c.args.table.now in
    needed-part u templates pages rows c.new-found.result c.read_pages.new.found (pages_findings u rows templates pages)
    c.new-found.ensures c.in_ok-read_pages-in-None.ensures (needed-pages u templates pages rows needed)
