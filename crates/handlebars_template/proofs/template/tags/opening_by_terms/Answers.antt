use Rattle.std.proofs.Common.{◌∙◌, sym, ap}
use Rattle.handlebars_lexer.specs.TrimView.{control_view}
use Rattle.handlebars_template.specs.Compile.{block_binding}
use Rattle.handlebars_template.specs.NestView.{kind_view}
use Rattle.handlebars_template.proofs.TagsBuilt.{said-along, block_built}
use Rattle.handlebars_template.proofs.template.tags.opening_by_terms.Goals as goal

-- There is an expression, so it was built.
pub returns-in_default : goal.returns-in_default
returns-in_default c expression rest is = absurd (rw c.in_default.is at c.in_ok-expression.ensures _ is.is_expression.after is.is_expression.is_expression)

pub returns : goal.returns
returns c expression rest is =
    let call = rw c.in-Some.is at c.in_ok-expression.ensures _ is.is_expression.after is.is_expression.is_expression in
    let built = block_built c.args.block.expression.now is.is_expression.after _ c.in-Some.expression is.is_expression.is_expression call in
    record {
      opening = c.opening-opening.ensures
          ∙ said-along (kind_view c.args.kind) (control_view c.args.control) expression _ _ _ _ _ built.name (c.in_ok-closing.ensures.ok ∙ sym is.is_name) built.arguments (c.in_ok-names.ensures ∙ ap block_binding (sym is.is_binding)) c.is_indented.ensures;
      rejected = built.rejected;
    }
