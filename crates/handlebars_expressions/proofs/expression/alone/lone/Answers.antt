use Rattle.std.proofs.Common.{◌∙◌, sym}
use Rattle.handlebars_expressions.specs.ExpressionView.{enclosure_of}
use Rattle.handlebars_expressions.proofs.Alone.{is_alone}
use Rattle.handlebars_expressions.proofs.expression.alone.lone.Goals as goal

pub returns-then-is_end-clause-alone : goal.returns-then-is_end-clause-alone
returns-then-is_end-clause-alone c text found =
    is_alone (enclosure_of c.args.around) text c.args.token.raw.now c.args.token.rest.now found (sym c.is_end.ensures ∙ c.if-is_end.true)
