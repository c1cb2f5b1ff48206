use Rattle.std.proofs.Common.{List, map, length, sym, ap, subst}
use Rattle.std.proofs.lemmas.List.{nil_from_length}
use Rattle.handlebars_html.specs.Rows as rows
use Rattle.handlebars_html.specs.RowsView.{row_of, rows_of}
use Rattle.handlebars_html.specs.Search as search
use Rattle.handlebars_html.specs.SearchView.{AreNeededAt, IsVerdictAt, pages_at, templates_at, user_at}
use Rattle.handlebars_html.specs.declared.rows.Row.{Row}
use Rattle.handlebars_html.proofs.NeededRows.{found-decides, needed-found, none-there}
use Rattle.handlebars_html.proofs.Rounds.{needed-with}
use Rattle.handlebars_html.proofs.search.search_rounds.Goals as goal

pub returns-then-is_empty : goal.returns-then-is_empty
returns-then-is_empty c = λ given.
    let found = c.in_ok-found.found in
    let none = nil_from_length found.rows.items
    (none-there c.is_empty.result found.rows.len (length found.rows.items) c.is_empty.ensures c.if-is_empty.true
    found.rows.ok.0) in
    subst (λ (z : search.Verdict). IsVerdictAt c.args.checked z) (sym (rw c.into_faults.ensures at c.verdict_by.ensures))
    (found-decides (user_at c.args.checked) (templates_at c.args.checked) (pages_at c.args.checked)
    (rows_of c.explore.new.table) found (c.in_ok-explore.ensures (c.rounds.invariant given)) c.in_ok-found.ensures
    (ap (λ (zs : List Row). map row_of zs) none))

pub rounds-preserved : goal.rounds-preserved
rounds-preserved c = λ given.
    let u = user_at c.args.checked in
    let templates = templates_at c.args.checked in
    let pages = pages_at c.args.checked in
    let table = rows_of c.explore.new.table in
    let found = c.in_ok-found.found in
    let needed = c.in_ok-explore.ensures (c.rounds.invariant given) in
    subst (λ (zs : List rows.Row). AreNeededAt c.args.checked zs)
    (sym (rw c.into_rows.ensures at c.in_ok-add_rows.ensures))
    (needed-with u templates pages table (map row_of found.rows.items) needed
    (needed-found u templates pages table found needed c.in_ok-found.ensures))
