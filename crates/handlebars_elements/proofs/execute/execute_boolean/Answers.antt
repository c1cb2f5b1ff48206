use Rattle.handlebars_semantics.specs.Writing.{write_boolean_text}
use Rattle.handlebars_write.proofs.Refinement.{refines_prog-boolean_text}
use Rattle.handlebars_elements.proofs.Executed.{leads-done}
use Rattle.handlebars_elements.proofs.execute.execute_boolean.Goals as goal

pub returns-then-not-block-clause-leads : goal.returns-then-not-block-clause-leads
returns-then-not-block-clause-leads g c = λ occurrence location d v captured. rw c.if-not-block.true
    (leads-done _ _ (write_boolean_text occurrence c.args.boolean) occurrence _ c.put_boolean.result c.done.result c.done.ensures.ok c.done.ensures.err
    (refines_prog-boolean_text _ _ occurrence c.args.boolean (c.put_boolean.ensures.writes occurrence location.location _)))
