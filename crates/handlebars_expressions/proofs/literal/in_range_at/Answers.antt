use Rattle.std.proofs.Common.{◌≡◌, not, true, sym, ap, ◌∙◌}
use Rattle.std.proofs.lemmas.Bool.{or_right}
use Rattle.handlebars_expressions.specs.Literal.{is_number, is_in_range}
use Rattle.handlebars_expressions.specs.LiteralReading.{run_of, in_range_at}
use Rattle.handlebars_expressions.proofs.literal.in_range_at.Goals as goal

pub returns-then-is_in_range : goal.returns-then-is_in_range
unfolding in_range_at
returns-then-is_in_range c =
    let prefix = run_of c.args.text.now in
    let in_range : is_in_range prefix ≡ true = ap is_in_range (sym c.run.ensures.prefix) ∙ sym c.is_in_range.ensures ∙ c.if-is_in_range.true in
    c.if-is_in_range.true ∙ sym (or_right (not (is_number prefix)) (is_in_range prefix) in_range)
