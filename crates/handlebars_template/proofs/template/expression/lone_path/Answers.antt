use Rattle.handlebars_expressions.specs.ExpressionView.{enclosure_of}
use Rattle.handlebars_template.proofs.ExpressionCalls.{lone-read}
use Rattle.handlebars_template.proofs.template.expression.lone_path.Goals as goal

pub returns-in-Some : goal.returns-in-Some
returns-in-Some c =
    rw c.in-Value.is
    (lone-read (enclosure_of c.args.around) c.args.text.now c.in-Some.path.raw.now c.in-Some.path.rest.now (rw c.in-Some.is at c.path_alone.ensures.alone) c.known_path.result c.known_path.ensures)
