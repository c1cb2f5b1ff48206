use Rattle.std.proofs.Common.{◌≡◌, ap, arith, chars, length, rules, string_bytes}
use Rattle.std.proofs.lemmas.Bool.Decides.{nat_tests}
use Rattle.std.proofs.lemmas.Str.{chars_from_encodes}
use Rattle.handlebars_report.proofs.place.Place.last_column.Goals as goal

pub returns-then-self : goal.returns-then-self
returns-then-self c =
    let count : c.count-line_end.result ≡ length (chars c.as_str.result.now) = search (rules, chars_from_encodes) in
    let line : length (chars c.as_str.result.now) ≡ length (chars (string_bytes c.args.self.now.line_text)) = ap (λ s. length (chars s)) c.as_str.ensures.value in
    grind (arith, nat_tests)

pub returns-else-self : goal.returns-else-self
returns-else-self c =
    let count : c.count-line_end.result ≡ length (chars c.as_str.result.now) = search (rules, chars_from_encodes) in
    let line : length (chars c.as_str.result.now) ≡ length (chars (string_bytes c.args.self.now.line_text)) = ap (λ s. length (chars s)) c.as_str.ensures.value in
    grind (arith, nat_tests)
