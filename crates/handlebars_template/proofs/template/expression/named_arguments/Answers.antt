use Rattle.handlebars_expressions.specs.Expression.{in_block}
use Rattle.handlebars_base.specs.PathView.{reference_of}
use Rattle.handlebars_template.specs.TreeView.{arguments_view}
use Rattle.handlebars_template.proofs.ExpressionCalls.{named-path}
use Rattle.handlebars_template.proofs.template.expression.named_arguments.Goals as goal

pub returns-in_ok-path_arguments-in-Some-2 : goal.returns-in_ok-path_arguments-in-Some-2
returns-in_ok-path_arguments-in-Some-2 c text expression left named is =
    let has = rw c.in-Some.is at named in
    let arguments = c.in_ok-path_arguments-in-Some-2 in
    named-path in_block text has.name c.in-Some.raw.now has.left (reference_of c.in-Some-2.path) has.is
    (rw c.in-Some-2.is at c.in_ok-path-in-Some.ensures) (arguments_view arguments.field-0) arguments.ensures expression left is
