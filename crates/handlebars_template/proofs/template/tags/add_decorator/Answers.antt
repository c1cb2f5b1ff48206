use Rattle.std.proofs.Common.{◌∙◌, ap}
use Rattle.std.proofs.lemmas.Result.{on_ok_weaker}
use Rattle.handlebars_template.specs.Tree.{decorator_expression, no_body}
use Rattle.handlebars_template.specs.TreeView.{decorator_view, position_of}
use Rattle.handlebars_template.specs.Nest.{decorator_with}
use Rattle.handlebars_template.proofs.TagsBuilt.{AppliesPiece-leaf}
use Rattle.handlebars_template.proofs.Levels.{element_view-DecoratorExpression}
use Rattle.handlebars_template.proofs.template.tags.add_decorator.Goals as goal

-- There is an expression, so the opening of the tag was built.
pub returns-in_default : goal.returns-in_default
returns-in_default c options expression rest is may = absurd (rw c.in_default.is at c.in_ok-built.ensures expression rest is)

pub returns : goal.returns
returns c = on_ok_weaker c.add.result
    (λ does options expression rest is.
    let built = rw c.in-Some.is at c.in_ok-built.ensures expression rest is in
    AppliesPiece-leaf c.args.nesting.now c.add.new.self (position_of c.args.at) expression.depth _ _ _ _
    (element_view-DecoratorExpression c.in_ok-tag.tag ∙ ap decorator_expression (ap decorator_view c.in_ok-tag.ensures.ok ∙ c.decorator.ensures ∙ ap (λ o. decorator_with o no_body) built.opening))
    built.rejected does)
    c.add.ensures
