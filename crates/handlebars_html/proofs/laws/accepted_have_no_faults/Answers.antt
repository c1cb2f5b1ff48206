use Rattle.handlebars_html.proofs.Rounds.{accepted_have_no_faults}
use Rattle.handlebars_html.proofs.laws.accepted_have_no_faults.Goals as goal

pub returns : goal.returns
returns c = accepted_have_no_faults
