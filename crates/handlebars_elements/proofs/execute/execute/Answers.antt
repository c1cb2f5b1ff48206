use Rattle.handlebars_elements.proofs.execute.execute.Goals as goal

pub returns-in-BuiltIn-clause-leads : goal.returns-in-BuiltIn-clause-leads
returns-in-BuiltIn-clause-leads g c = λ occurrence location d v captured. rw c.in-BuiltIn.is
    (c.execute_built_in.ensures.leads occurrence location d v captured)

pub returns-in-BuiltIn-clause-given : goal.returns-in-BuiltIn-clause-given
returns-in-BuiltIn-clause-given g c = λ d is. c.execute_built_in.ensures.given d (rw c.in-BuiltIn.is at is)

pub returns-in-User-clause-leads : goal.returns-in-User-clause-leads
returns-in-User-clause-leads g c = λ occurrence location d v captured. rw c.in-User.is
    (c.execute_user.ensures.leads occurrence location c.args.block d v captured)

pub returns-in-User-clause-given : goal.returns-in-User-clause-given
returns-in-User-clause-given g c = λ d is. c.execute_user.ensures.given d
