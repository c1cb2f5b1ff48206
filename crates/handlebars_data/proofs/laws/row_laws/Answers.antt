use Rattle.handlebars_data.proofs.RowsAgain.{replaces_earlier_row, is_as_new}
use Rattle.handlebars_data.proofs.laws.row_laws.Goals as goal

pub returns-clause-replaces : goal.returns-clause-replaces
returns-clause-replaces c = replaces_earlier_row

pub returns-clause-as_new : goal.returns-clause-as_new
returns-clause-as_new c = is_as_new
