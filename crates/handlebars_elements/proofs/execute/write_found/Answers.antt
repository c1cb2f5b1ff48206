use Rattle.std.proofs.Common.{None, Some}
use Rattle.serde_json.specs.View.{view}
use Rattle.handlebars_values.specs.ParamView.{value_found}
use Rattle.handlebars_elements.proofs.Executed.{data_in-present}
use Rattle.handlebars_elements.proofs.execute.write_found.Goals as goal

pub returns-in-Some-clause-writes : goal.returns-in-Some-clause-writes
returns-in-Some-clause-writes g c = λ occurrence location captured.
    rw (data_in-present (value_found c.args.found.now) (Some (view c.in-Some.json.now)) c.in-Some.ensures)
    (c.write_json.ensures.writes occurrence location captured)

pub returns-in-None-clause-writes : goal.returns-in-None-clause-writes
returns-in-None-clause-writes g c = λ occurrence location captured.
    rw (data_in-present (value_found c.args.found.now) None c.in-None.ensures)
    (rw c.value.ensures at (c.write_json-in-None.ensures.writes occurrence location captured))
