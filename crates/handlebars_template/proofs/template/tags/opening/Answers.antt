use Rattle.std.proofs.Common.{ap, sym}
use Rattle.handlebars_lexer.specs.TrimView.{control_view}
use Rattle.handlebars_template.specs.Compile.{block_binding}
use Rattle.handlebars_template.specs.NestView.{kind_view}
use Rattle.handlebars_template.specs.TreeView.{arguments_view}
use Rattle.handlebars_template.proofs.TagsBuilt.{said-named}
use Rattle.handlebars_template.proofs.template.tags.opening.Goals as goal

pub returns : goal.returns
returns c expression rest is =
    let has = rw c.in-Some.is at c.in_ok-arguments.ensures c.args.block.expression.now _ is.is_expression.after is.is_path is.is_expression.is_expression in
    record {
      opening = said-named (kind_view c.args.kind) (control_view c.args.control) expression has.name c.args.block.name.now (arguments_view c.in-Some.arguments) _ _ c.in_ok-opening.ensures has.is_name is.is_name has.arguments (ap block_binding (sym is.is_binding));
      rejected = has.rejected;
    }
