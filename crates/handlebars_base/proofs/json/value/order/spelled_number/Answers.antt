use Rattle.std.proofs.Common.{◌∙◌, sym, ap, option_map, pos, None, lit<}
use Rattle.std.proofs.lemmas.Str.Pattern.{strip_prefix_char}
use Rattle.handlebars_base.proofs.Numerals.{spelled_number-plain}
use Rattle.handlebars_base.proofs.json.value.order.spelled_number.Goals as goal

pub returns-in-None-spelled_digits : goal.returns-in-None-spelled_digits
returns-in-None-spelled_digits c =
    let t = c.args.text.now in
    ap (option_map pos) c.in-None-spelled_digits.ensures
    ∙ sym (spelled_number-plain t (strip_prefix_char 45 t None c.in-None.ensures.cases (lit< tt)))
