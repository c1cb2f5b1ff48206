use Rattle.std.proofs.Common.{sym, ◌∙◌}
use Rattle.handlebars_expressions.proofs.CommonJson.{literal_value-single}
use Rattle.handlebars_expressions.proofs.literal_value.plain_in_singles.Goals as goal

pub returns-then-lacks_single : goal.returns-then-lacks_single
returns-then-lacks_single c =
    literal_value-single c.args.text.now c.in_ok-inner.inner.now c.in_ok-inner.ensures (sym c.is_plain.ensures ∙ c.if-is_plain.true) (sym c.lacks_single.ensures ∙ c.if-lacks_single.true)
