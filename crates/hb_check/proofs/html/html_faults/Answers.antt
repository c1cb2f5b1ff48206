use Rattle.std.proofs.Common.{Bor, rules, ◌≡◌, ◌∷◌, [], List, false, refl, get_or, map, take, ap, sym, subst, ◌∙◌}
use Rattle.std.proofs.lemmas.List.{map-append}
use Rattle.handlebars_base.specs.Bytes.{Text}
use Rattle.handlebars_html.specs.RowsView.{fault_of}
use Rattle.handlebars_html.specs.Search.{all_templates}
use Rattle.handlebars_html.specs.SearchView.{verdict_of}
use Rattle.hb_check.specs.Says.{html_pages, page_alone}
use Rattle.hb_check.proofs.Finds.{Finds, empty-list, finds-next, finds-one}
use Rattle.hb_check.proofs.Reports.{map-take_more_at}
use Rattle.hb_check.proofs.html.html_faults.Goals as goal

pub returns-then-is_empty : goal.returns-then-is_empty
returns-then-is_empty g c =
    let r = g.E.UserParts.registered c.args.entries.now in
    let a = g.E.UserParts.user c.args.entries.now in
    let none : c.args.pages.now ≡ [] = empty-list c.args.pages.now c.if-is_empty.ensures in
    subst (λ xs. Finds r a c.args.sources.now (html_pages (map (λ n. n.now) xs)) c.add_verdict.new.found.undecided (map fault_of c.add_verdict.new.found.faults.items))
    (sym none)
    (finds-one r a c.args.sources.now all_templates (verdict_of c.in_ok-verdict_of.field-0) false c.add_verdict.new.found.undecided []
    (map fault_of c.add_verdict.new.found.faults.items) refl refl c.in_ok-verdict_of.ensures c.in_ok-add_verdict.ensures.undecided
    (search rules))

pub pages-preserved : goal.pages-preserved
pages-preserved g c =
    let r = g.E.UserParts.registered c.args.entries.now in
    let a = g.E.UserParts.user c.args.entries.now in
    let nothing : Bor Text = record { ref_ptr = (0, 0); now = [] } in
    let page = get_or c.args.pages.now c.pages.page-index nothing in
    let done : List Text = map (λ n. n.now) (take c.pages.page-index c.args.pages.now) in
    finds-next r a c.args.sources.now (map page_alone done) _ (page_alone page.now) (verdict_of c.in_ok-verdict_of_page.field-0) _ _ _ _
    (ap (map page_alone) (map-take_more_at (λ n. n.now) c.args.pages.now c.pages.page-index nothing c.pages-test.true)
    ∙ map-append page_alone done (page.now ∷ []))
    c.pages.invariant c.in_ok-verdict_of_page.ensures c.in_ok-add_verdict-2.ensures.undecided c.in_ok-add_verdict-2.ensures.faults
