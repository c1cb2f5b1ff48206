use Rattle.std.proofs.Common.{◌∙◌}
use Rattle.handlebars_expressions.proofs.OpeningNames.{name_stepped}
use Rattle.handlebars_expressions.proofs.expression.step.name_step.Goals as goal

pub returns-in-Some-name_prefix : goal.returns-in-Some-name_prefix
returns-in-Some-name_prefix c =
    let token = c.in-Some-name_prefix.token in
    rw c.in-Opening.is
    (c.plain_step-in-Some-name_prefix.ensures ∙ name_stepped c.args.level c.args.text.now token.raw.now token.rest.now (rw c.in-Some-name_prefix.is at c.name_prefix.ensures.token) (rw c.in-Some-name_prefix.is at c.name_prefix.ensures.name))
