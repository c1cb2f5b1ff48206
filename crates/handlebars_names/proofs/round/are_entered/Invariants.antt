use Rattle.std.proofs.Common.{◌≡◌, drop, map}
use Rattle.std.specs.List.{list_all}
use Rattle.handlebars_names.specs.NamesView.{entry_of, finding_of}
use Rattle.handlebars_names.specs.Search.{is_entered}
use Rattle.handlebars_names.proofs.round.are_entered.Given as goal

abbrev pub invariant-findings : goal.invariant-findings
invariant-findings l =
    list_all (is_entered (map entry_of l.table.entries)) (map finding_of (drop l.finding-index l.findings))
    ≡ list_all (is_entered (map entry_of l.table.entries)) (map finding_of l.findings)
