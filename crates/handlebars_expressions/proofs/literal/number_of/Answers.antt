use Rattle.std.proofs.Common.{◌≡◌, false, sym, ap, refl, ◌∙◌}
use Rattle.handlebars_expressions.specs.Literal.{is_digits, number_of}
use Rattle.handlebars_expressions.proofs.Numbers.{number_of-parse}
use Rattle.handlebars_expressions.proofs.literal.number_of.Goals as goal

pub returns-then-is_digits : goal.returns-then-is_digits
returns-then-is_digits c =
    c.ok.ensures.value
    ∙ number_of-parse c.args.text.now c.parse.result c.parse.ensures.value.0
    (ap is_digits (sym c.as_bytes.ensures.value) ∙ sym c.is_digits.ensures ∙ c.if-is_digits.true)

pub returns-else-is_digits : goal.returns-else-is_digits
unfolding number_of
returns-else-is_digits c =
    let none : is_digits c.args.text.now ≡ false = ap is_digits (sym c.as_bytes.ensures.value) ∙ sym c.is_digits.ensures ∙ c.if-is_digits.false in
    rw none refl
