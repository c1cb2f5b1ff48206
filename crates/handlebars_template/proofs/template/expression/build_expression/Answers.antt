use Rattle.handlebars_template.proofs.template.expression.build_expression.Goals as goal

pub returns-in-Some : goal.returns-in-Some
returns-in-Some c expression left l = c.path_expression.ensures expression ((rw c.in-Some.is at c.in_ok-path.ensures) expression left l)
