use Rattle.std.proofs.Common.{map, sym, ◌∙◌, subst}
use Rattle.handlebars_html.specs.SearchView.{template_of}
use Rattle.handlebars_names.specs.NamesView.{entry_of, fault_of, finding_of, names_in, page_of}
use Rattle.handlebars_names.specs.Search.{Verdict, IsVerdict}
use Rattle.handlebars_names.proofs.Accepted.{decided}
use Rattle.handlebars_names.proofs.check.decide.Goals as goal

pub returns-then-are_entered : goal.returns-then-are_entered
returns-then-are_entered g c =
    let checked = c.args.checked in
    let list = c.args.templates.now.list.now in
    let names = names_in (g.E.UserParts.registered c.args.entries.now) checked.sections list in
    let templates = map template_of list in
    subst (λ (v : Verdict). IsVerdict names templates (page_of checked.page) v) (sym c.verdict_by.ensures)
    (decided names (map entry_of c.args.table.now.entries) templates (page_of checked.page)
    (map finding_of c.in_ok-findings.findings.items) (map fault_of c.in_ok-faults.faults.items)
    c.in_ok-findings.ensures
    (sym (rw c.deref.ensures.value at c.are_entered.ensures) ∙ c.if-are_entered.true)
    c.in_ok-faults.ensures)
