use Rattle.std.proofs.Common.{◌≡◌, List, map, take}
use Rattle.std.specs.List.{AllZip}
use Rattle.handlebars_html.specs.RowsView.{fault_of}
use Rattle.handlebars_html.specs.Search.{Verdict}
use Rattle.hb_check.specs.Says.{SaysHtml, all_faults, any_undecided, page_alone}
use Rattle.hb_check.proofs.html.html_faults.Given as goal

abbrev pub invariant-pages : goal.invariant-pages
invariant-pages g l =
    (vs : List Verdict)
    × AllZip (SaysHtml (g.E.UserParts.registered l.entries) (g.E.UserParts.user l.entries) l.sources)
    (map page_alone (map (λ n. n.now) (take l.page-index l.pages))) vs
    × (l.found.undecided ≡ any_undecided vs) × (map fault_of l.found.faults.items ≡ all_faults vs)
