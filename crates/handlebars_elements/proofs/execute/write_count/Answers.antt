use Rattle.handlebars_base.proofs.ShownValues.{view-Number}
use Rattle.handlebars_elements.proofs.execute.write_count.Goals as goal

pub returns-clause-writes : goal.returns-clause-writes
returns-clause-writes g c = λ occurrence location captured.
    rw (view-Number c.from.result, c.from.ensures) at (c.write_json.ensures.writes occurrence location captured)
