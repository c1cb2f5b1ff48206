use Rattle.std.proofs.Common.{◌∙◌, ap}
use Rattle.std.proofs.lemmas.Result.{on_ok_weaker}
use Rattle.handlebars_template.specs.TreeView.{position_of}
use Rattle.handlebars_template.specs.ScanView.{value_element}
use Rattle.handlebars_template.proofs.TagsBuilt.{AppliesPiece-leaf}
use Rattle.handlebars_template.proofs.template.tags.add_terms.Goals as goal

-- There is an expression, so it was built.
pub returns-in_default : goal.returns-in_default
returns-in_default c expression rest is may = absurd (rw c.in_default.is at c.in_ok-expression.ensures expression rest is)

pub returns : goal.returns
returns c = on_ok_weaker c.add.result
    (λ does expression rest is.
    let built = rw c.in-Some.is at c.in_ok-expression.ensures expression rest is in
    AppliesPiece-leaf c.args.nesting.now c.add.new.self (position_of c.args.at) expression.depth _ _ _ _ (c.value_element.ensures ∙ ap (value_element c.args.is_escaped) (c.in_ok-call.ensures ∙ c.call.ensures ∙ built.call)) built.rejected does)
    c.add.ensures
