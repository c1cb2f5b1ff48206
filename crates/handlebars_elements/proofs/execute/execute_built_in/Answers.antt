use Rattle.handlebars_elements.proofs.Executed.{leads-done}
use Rattle.handlebars_elements.proofs.execute.execute_built_in.Goals as goal

pub returns-in-Value-clause-leads : goal.returns-in-Value-clause-leads
returns-in-Value-clause-leads g c = λ occurrence location d v captured. rw c.in-Value.is
    (leads-done _ _ _ occurrence _ c.write_found.result c.done.result c.done.ensures.ok c.done.ensures.err
    (c.write_found.ensures.writes occurrence location captured))

pub returns-in-Count-clause-leads : goal.returns-in-Count-clause-leads
returns-in-Count-clause-leads g c = λ occurrence location d v captured. rw c.in-Count.is
    (leads-done _ _ _ occurrence _ c.write_count.result c.done-in-Count.result c.done-in-Count.ensures.ok c.done-in-Count.ensures.err
    (c.write_count.ensures.writes occurrence location captured))

pub returns-in-Boolean-clause-leads : goal.returns-in-Boolean-clause-leads
returns-in-Boolean-clause-leads g c = λ occurrence location d v captured. rw c.in-Boolean.is
    (c.execute_boolean.ensures.leads occurrence location d v captured)

pub returns-in-Boolean-clause-given : goal.returns-in-Boolean-clause-given
returns-in-Boolean-clause-given g c = λ d is. c.execute_boolean.ensures.given d
