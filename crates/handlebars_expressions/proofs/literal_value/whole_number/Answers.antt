use Rattle.std.proofs.Common.{sym, ◌∙◌}
use Rattle.handlebars_expressions.proofs.CommonJson.{if_digits}
use Rattle.handlebars_expressions.proofs.literal_value.whole_number.Goals as goal

pub returns : goal.returns
returns c = if_digits c.args.text.now c.number_of.result (sym c.has_leading_zero.ensures ∙ c.if-has_leading_zero.false) c.number_of.ensures
