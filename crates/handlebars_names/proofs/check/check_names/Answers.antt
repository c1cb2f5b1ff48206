use Rattle.std.proofs.Common.{List, map, subst}
use Rattle.handlebars_html.specs.SearchView.{template_of}
use Rattle.handlebars_html.specs.declared.search.NamedTemplate.{NamedTemplate}
use Rattle.handlebars_names.specs.NamesView.{names_in, page_of, verdict_of}
use Rattle.handlebars_names.specs.Search.{IsVerdict}
use Rattle.handlebars_names.proofs.check.check_names.Goals as goal

pub returns-in-Some : goal.returns-in-Some
returns-in-Some g c =
    subst (λ (ts : List NamedTemplate).
    IsVerdict (names_in (g.E.UserParts.registered c.args.entries.now) c.args.checked.sections ts) (map template_of ts)
    (page_of c.args.checked.page) (verdict_of c.in-Some.verdict)) c.in_ok-templates.ensures
    (rw c.in-Some.is at c.in_ok-verdict.ensures)
