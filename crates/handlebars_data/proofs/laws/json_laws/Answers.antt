use Rattle.handlebars_data.proofs.SpelledOut.{refuses_as_serde_json, spells_out_numbers, refusing_changes_nothing, has_no_float}
use Rattle.handlebars_data.proofs.laws.json_laws.Goals as goal

pub returns-clause-refuses : goal.returns-clause-refuses
returns-clause-refuses c = refuses_as_serde_json

pub returns-clause-spells : goal.returns-clause-spells
returns-clause-spells c = spells_out_numbers

pub returns-clause-refusing : goal.returns-clause-refusing
returns-clause-refusing c = refusing_changes_nothing

pub returns-clause-no_float : goal.returns-clause-no_float
returns-clause-no_float c = has_no_float
