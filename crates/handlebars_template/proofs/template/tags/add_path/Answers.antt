use Rattle.std.proofs.lemmas.Result.{on_ok_weaker}
use Rattle.handlebars_base.specs.PathView.{reference_of}
use Rattle.handlebars_expressions.specs.Expression.{in_tag}
use Rattle.handlebars_template.proofs.ExpressionCalls.{lone-path, lone-none}
use Rattle.handlebars_template.proofs.template.tags.add_path.Goals as goal

pub returns-in-Some : goal.returns-in-Some
returns-in-Some c = on_ok_weaker c.add_known.result
    (λ does expression text after left is alone. does expression (lone-path in_tag text c.args.token.raw.now left (reference_of c.in-Some.path) alone (rw c.in-Some.is at c.in_ok-path.ensures) expression after is))
    c.add_known.ensures

-- The text of a path that is alone is always a path.
pub returns-in-None : goal.returns-in-None
returns-in-None c expression text after left is alone = lone-none in_tag text c.args.token.raw.now left alone (rw c.in-None.is at c.in_ok-path.ensures)
