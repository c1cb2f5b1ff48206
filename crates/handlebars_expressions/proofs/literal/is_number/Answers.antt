use Rattle.std.proofs.Common.{◌≡◌, true, sym, ap, ◌∙◌}
use Rattle.handlebars_expressions.specs.Literal.{is_digits}
use Rattle.handlebars_expressions.proofs.Plain.{number-other, is_number-digits}
use Rattle.handlebars_expressions.proofs.literal.is_number.Goals as goal

pub returns-then-is_digits : goal.returns-then-is_digits
returns-then-is_digits c =
    let digits : is_digits c.args.text.now ≡ true = ap is_digits (sym c.as_bytes.ensures.value) ∙ sym c.is_digits.ensures ∙ c.if-is_digits.true in
    c.if-is_digits.true ∙ sym (is_number-digits c.args.text.now digits)

pub returns-else-begins_number : goal.returns-else-begins_number
returns-else-begins_number c =
    let other = c.if-begins_number.false in
    other ∙ sym (number-other c.args.text.now (sym c.begins_number.ensures ∙ other))
