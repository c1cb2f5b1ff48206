use Rattle.handlebars_scope.proofs.context.walk.found_by.Goals as goal

pub returns-in-Along-clause-found : goal.returns-in-Along-clause-found
returns-in-Along-clause-found c = rw c.in-Along.is c.found_along.ensures.found
