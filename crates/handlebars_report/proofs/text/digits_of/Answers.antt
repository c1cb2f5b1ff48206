use Rattle.std.proofs.Common.{◌+◌, ◌/◌, ◌<◌, ◌≡◌, ◌≤◌, ◌^◌, ℕ, ap, arith, decimal, length, ◌∙◌}
use Rattle.std.proofs.lemmas.Fmt.{decimal_digit, decimal_step, length-decimal-le}
use Rattle.std.proofs.lemmas.List.{length_push}
use Rattle.handlebars_report.proofs.text.digits_of.Goals as goal

short : (n : ℕ) → n < 2 ^ 64 → length (decimal n) ≤ 20
short n fits = length-decimal-le 20 n (omega arith) (omega arith) fits

more : (n : ℕ) → 10 ≤ n → n < 2 ^ 64 → length (decimal n) ≡ length (decimal (n / 10)) + 1
more n large fits = ap length (decimal_step n large fits) ∙ length_push (decimal (n / 10)) _

pub overflow_add-digits : goal.overflow_add-digits
overflow_add-digits c =
    let all = short c.args.number (omega arith) in
    let left = more c.digits.rest (omega arith) c.digits.invariant.in_range in
    omega arith

pub digits-preserved : goal.digits-preserved
digits-preserved c =
    let left = more c.digits.rest (omega arith) c.digits.invariant.in_range in
    record { counted = omega arith; in_range = omega arith }

pub returns : goal.returns
returns c =
    let one = ap length (decimal_digit c.digits.rest c.digits-test.false) in
    record { digits = omega arith; within = let all = short c.args.number (omega arith) in omega arith }
