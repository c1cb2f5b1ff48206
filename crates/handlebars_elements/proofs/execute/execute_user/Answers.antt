use Rattle.handlebars_elements.proofs.Executed.{leads-done}
use Rattle.handlebars_elements.proofs.execute.execute_user.Goals as goal

pub returns-in-Value-clause-leads : goal.returns-in-Value-clause-leads
returns-in-Value-clause-leads g c = λ occurrence location block d v captured. rw c.in-Value.is
    (leads-done _ _ _ occurrence _ c.write_json.result c.done.result c.done.ensures.ok c.done.ensures.err
    (c.write_json.ensures.writes occurrence location captured))
