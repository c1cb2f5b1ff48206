use Rattle.std.proofs.Common.{◌≡◌, ◌∙◌, ap, sym, drop}
use Rattle.handlebars_lexer.specs.Text.{backslashes}
use Rattle.handlebars_lexer.proofs.Texts.{escaped_len}
use Rattle.handlebars_lexer.proofs.Texts.{GoesOn-escape, Ends-run, more_ascii}
use Rattle.handlebars_lexer.specs.TextView.{braces_of}
use Rattle.handlebars_lexer.proofs.text.escape.Goals as goal

pub returns-then-run-eq1-clause-on : goal.returns-then-run-eq1-clause-on
returns-then-run-eq1-clause-on c = λ _.
    let one : backslashes c.args.source.now ≡ 1 = sym c.requires.run ∙ c.if-run-eq1.true in
    let len : c.escaped_len.result ≡ escaped_len (drop 1 c.args.source.now) = c.escaped_len.ensures ∙ ap escaped_len (c.as_bytes.ensures.value ∙ c.split_after.ensures.back) in
    rw (c.split_after-then-run-eq1.ensures.prefix, c.split_after-then-run-eq1.ensures.back, c.split_after.ensures.back, len) (GoesOn-escape (braces_of c.args.until) c.args.source.now c.requires.marks one)

pub split_after-requires-else-run-eq1-clause-ascii : goal.split_after-requires-else-run-eq1-clause-ascii
split_after-requires-else-run-eq1-clause-ascii c = rw c.split_after.ensures.back (more_ascii c.args.source.now c.args.run c.requires.run c.requires.some c.if-run-eq1.false)

pub returns-else-run-eq1-clause-last : goal.returns-else-run-eq1-clause-last
returns-else-run-eq1-clause-last c = λ _.
    rw (c.split_after-else-run-eq1.ensures.prefix, c.split_after-else-run-eq1.ensures.back, c.split_after.ensures.back) (Ends-run (braces_of c.args.until) c.args.source.now c.args.run c.requires.run c.requires.some c.if-run-eq1.false c.requires.marks)
