use Rattle.std.proofs.Common.{drop}
use Rattle.handlebars_html.proofs.Listed.{AddsNames}
use Rattle.handlebars_html.proofs.others.add_built_in_names.Given as goal

abbrev pub invariant-rows : goal.invariant-rows
invariant-rows l = AddsNames (λ row. row.0.now) l.initial.names l.names (drop l.name-index l.name-items) l.name-items
