use Rattle.std.proofs.Common.{sym, ◌∙◌}
use Rattle.handlebars_expressions.proofs.CommonJson.{literal_value-double}
use Rattle.handlebars_expressions.proofs.literal_value.plain_in_doubles.Goals as goal

pub returns-then-is_plain : goal.returns-then-is_plain
returns-then-is_plain c =
    literal_value-double c.args.text.now c.in_ok-inner.inner.now c.in_ok-inner.ensures (sym c.is_plain.ensures ∙ c.if-is_plain.true)
