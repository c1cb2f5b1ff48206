use Rattle.std.proofs.Common.{◌∙◌, sym}
use Rattle.handlebars_template.proofs.ExpressionCalls.{identifier}
use Rattle.handlebars_template.proofs.template.build.is_name.Goals as goal

pub returns-then-not-is_empty : goal.returns-then-not-is_empty
returns-then-not-is_empty c all =
    identifier c.args.raw.now (sym c.if-not-is_empty.true ∙ c.is_empty.ensures) (sym c.all_symbols.ensures ∙ all)
