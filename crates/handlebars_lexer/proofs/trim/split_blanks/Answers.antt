use Rattle.std.proofs.Common.{◌≡◌, ◌<◌, length, get_or, true, subst, arith}
use Rattle.handlebars_base.specs.Bytes.{Text}
use Rattle.handlebars_lexer.specs.Trim.{is_blank}
use Rattle.handlebars_lexer.proofs.Trims.{is_blank-boundary}
use Rattle.handlebars_lexer.proofs.trim.split_blanks.Goals as goal

pub split_at-requires : goal.split_at-requires
split_at-requires c =
    let n = c.dark_len.result in
    let t = c.args.text.now in
    let blank : n < length t → is_blank (get_or t n 0) ≡ true = subst (λ (z : Text). n < length z → is_blank (get_or z n 0) ≡ true) c.as_bytes.ensures.value c.dark_len.ensures.blank in
    is_blank-boundary t n (omega (arith, c.dark_len.ensures.len, c.as_bytes.ensures.len)) blank
