use Rattle.std.proofs.Common.{◌∙◌, ap, option_map}
use Rattle.std.proofs.lemmas.Result.{on_ok_weaker}
use Rattle.handlebars_lexer.specs.TrimView.{control_view}
use Rattle.handlebars_template.specs.OptionsView.{options_view}
use Rattle.handlebars_template.specs.Tree.{partial_expression}
use Rattle.handlebars_template.specs.TreeView.{text, decorator_view, position_of}
use Rattle.handlebars_template.proofs.TagsBuilt.{AppliesPiece-leaf, inclusion_built, inclusion_along}
use Rattle.handlebars_template.proofs.Levels.{element_view-PartialExpression}
use Rattle.handlebars_template.proofs.template.tags.add_partial.Goals as goal

-- There is an expression, so it was built.
pub returns-in_default : goal.returns-in_default
returns-in_default c expression rest is may = absurd (rw c.in_default.is at c.in_ok-expression.ensures expression rest is)

pub returns : goal.returns
returns c = on_ok_weaker c.add.result
    (λ does expression rest is.
    let built = inclusion_built c.args.text.now rest expression c.in-Some.expression is (rw c.in-Some.is at c.in_ok-expression.ensures expression rest is) in
    AppliesPiece-leaf c.args.nesting.now c.add.new.self (position_of c.args.at) expression.depth _ _ _ _
    (element_view-PartialExpression c.in_ok-tag.tag ∙ ap partial_expression (ap decorator_view c.in_ok-tag.ensures.ok ∙ c.inclusion.ensures
    ∙ inclusion_along (options_view c.args.options.now) (control_view c.args.control) expression _ _ (option_map text c.in_ok-indent.indent) c.is_indented.result built.name built.arguments c.in_ok-indent.ensures c.is_indented.ensures))
    built.rejected does)
    c.add.ensures
