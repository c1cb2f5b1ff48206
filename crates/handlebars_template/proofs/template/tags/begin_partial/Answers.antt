use Rattle.std.proofs.Common.{◌∙◌}
use Rattle.std.proofs.lemmas.Result.{on_ok_weaker}
use Rattle.handlebars_lexer.specs.TrimView.{control_view}
use Rattle.handlebars_template.specs.TreeView.{text, position_of}
use Rattle.handlebars_template.proofs.TagsBuilt.{AppliesPiece-opening, inclusion_built, opening_along}
use Rattle.handlebars_template.proofs.template.tags.begin_partial.Goals as goal

-- There is an expression, so it was built.
pub returns-in_default : goal.returns-in_default
returns-in_default c options expression rest is may = absurd (rw c.in_default.is at c.in_ok-expression.ensures expression rest is)

pub returns : goal.returns
returns c = on_ok_weaker c.begin.result
    (λ does options expression rest is.
    let built = inclusion_built c.args.text.now rest expression c.in-Some.expression is (rw c.in-Some.is at c.in_ok-expression.ensures expression rest is) in
    AppliesPiece-opening c.args.nesting.now c.begin.new.self (position_of c.args.at) expression.depth _ _ _ _
    (c.opening-opening.ensures ∙ opening_along (control_view c.args.control) expression _ (text c.in_ok-closing.closing) _ c.is_indented.result built.name c.in_ok-closing.ensures built.arguments c.is_indented.ensures)
    built.rejected does)
    c.begin.ensures
