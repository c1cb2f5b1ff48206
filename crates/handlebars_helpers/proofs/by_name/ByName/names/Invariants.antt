use Rattle.handlebars_helpers.proofs.Named.{NamesFrom}
use Rattle.handlebars_helpers.proofs.by_name.ByName.names.Given as goal

abbrev pub invariant-entries : goal.invariant-entries
invariant-entries g l = NamesFrom l.names l.name-iterator l.self.by_name.entries
