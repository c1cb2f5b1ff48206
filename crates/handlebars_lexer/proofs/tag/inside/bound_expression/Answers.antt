use Rattle.std.proofs.Common.{refl}
use Rattle.handlebars_expressions.specs.Expression.{opening_name}
use Rattle.handlebars_expressions.specs.BindingView.{bound_names_of}
use Rattle.handlebars_lexer.specs.Tag.{block_mode}
use Rattle.handlebars_lexer.proofs.BlockExpressions.{block_expression-is, none-binding}
use Rattle.handlebars_lexer.proofs.ExpressionNames.{to_opening}
use Rattle.handlebars_lexer.proofs.tag.inside.bound_expression.Goals as goal

pub returns-in-Some : goal.returns-in-Some
returns-in-Some c sections expression is deep name path =
    let t = c.args.text.now in
    let binding = c.in-Some.binding in
    let binds = rw c.in-Some.is at c.split_binding.ensures in
    record {
      expression = record { name = expression.name; terms = expression.terms; binding = bound_names_of binding.means; depth = expression.depth };
      is_expression = block_expression-is (block_mode sections) t c.args.after.now binding.rest.now expression (bound_names_of binding.means) is binds;
      is_token = record {
        is_expression = block_expression-is opening_name t c.args.after.now binding.rest.now expression (bound_names_of binding.means) (to_opening sections t c.args.after.now expression is) binds;
        is_name = name;
        is_path = path;
        is_binding = refl;
      };
      deep = deep;
    }

pub returns-in-None : goal.returns-in-None
returns-in-None c sections expression is deep name path =
    none-binding (block_mode sections) c.args.text.now c.args.after.now expression is (rw c.in-None.is at c.split_binding.ensures)
