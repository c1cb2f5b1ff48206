use Rattle.std.proofs.Common.{◌<◌, length, get_or, ◌∙◌, ap, arith}
use Rattle.std.proofs.lemmas.Grind.{common_steps}
use Rattle.handlebars_base.proofs.Numerals.{result_ok-digits}
use Rattle.handlebars_base.proofs.json.value.order.spelled_digits.Goals as goal

pub returns : goal.returns
returns c =
    let t = c.args.text.now in
    let some : 0 < length t = grind (arith, common_steps) in
    let first = ap (λ bs. get_or bs 0 0) c.as_bytes-bytes.ensures.value in
    c.ok.ensures.value ∙ result_ok-digits t _ c.parse.ensures.value.0 some
    (λ e. c.if-bytes-eq48.false (first ∙ e)) (λ e. c.if-bytes-eq43.false (first ∙ e))
