use Rattle.std.proofs.Common.{drop, map}
use Rattle.handlebars_html.specs.SearchView.{template_of}
use Rattle.handlebars_names.specs.NamesView.{names_at, table_at}
use Rattle.handlebars_names.specs.Search.{templates_findings}
use Rattle.handlebars_names.proofs.Finding.{Accumulates}
use Rattle.handlebars_names.proofs.round.check_templates.Given as goal

abbrev pub invariant-templates : goal.invariant-templates
invariant-templates g l =
    Accumulates l.initial.findings.items l.findings.items
    (templates_findings (names_at (g.E.UserParts.registered l.entries) l.known) (table_at l.known) (map template_of (drop l.named-index l.named-items)))
    (templates_findings (names_at (g.E.UserParts.registered l.entries) l.known) (table_at l.known) (map template_of l.named-items))
