use Rattle.std.proofs.Common.{◌≡◌, ◌∙◌, None, ◌++◌, ap, sym}
use Rattle.std.proofs.lemmas.Result.{on_ok_weaker}
use Rattle.handlebars_expressions.specs.Parameter.{Term, Terms}
use Rattle.handlebars_template.specs.Calls.{first_rejected, literals_of, literals_in, expression_literals}
use Rattle.handlebars_template.specs.TreeView.{position_of}
use Rattle.handlebars_template.specs.ScanView.{value_element}
use Rattle.handlebars_template.proofs.TagsBuilt.{AppliesPiece-leaf}
use Rattle.handlebars_template.proofs.template.tags.add_known.Goals as goal

-- A path has no literals.
pub returns : goal.returns
returns c = on_ok_weaker c.add.result
    (λ does expression alone.
    let built = c.path_expression.ensures expression alone in
    let none : first_rejected (expression_literals expression) ≡ None =
    ap (λ (t : Term). first_rejected (literals_of t ++ literals_in expression.terms)) alone.name ∙ ap (λ (ts : Terms). first_rejected (literals_in ts)) alone.terms in
    AppliesPiece-leaf c.args.nesting.now c.add.new.self (position_of c.args.at) expression.depth _ _ None _ (c.value_element.ensures ∙ ap (value_element c.args.is_escaped) (c.in_ok-call.ensures ∙ c.call.ensures ∙ built.call)) (sym none) does)
    c.add.ensures
