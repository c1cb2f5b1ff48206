use Rattle.std.proofs.Common.{◌≡◌, ◌∙◌, ap, sym, drop}
use Rattle.handlebars_lexer.specs.Text.{backslashes}
use Rattle.handlebars_lexer.specs.TextReading.{clear_len}
use Rattle.handlebars_lexer.proofs.Texts.{IsCharBoundary-clear_len, GoesOn-clear, Ends-clear}
use Rattle.handlebars_lexer.specs.TextView.{braces_of}
use Rattle.handlebars_lexer.proofs.text.next_chunk.Goals as goal

pub split_at-requires : goal.split_at-requires
split_at-requires c = rw (c.clear_len.ensures, c.as_bytes.ensures.value) (IsCharBoundary-clear_len (braces_of c.args.until) c.args.source.now)

pub returns-then-run-eq0-clause-last : goal.returns-then-run-eq0-clause-last
returns-then-run-eq0-clause-last c = λ _.
    let w = braces_of c.args.until in
    let t = c.args.source.now in
    let len : c.clear_len.result ≡ clear_len w t = c.clear_len.ensures ∙ ap (clear_len w) c.as_bytes.ensures.value in
    let after : c.as_bytes-2.result.now ≡ drop (clear_len w t) t = c.as_bytes-2.ensures.value ∙ c.split_at.ensures.back ∙ rw len in
    rw (c.split_at.ensures.front, c.split_at.ensures.back, len) (Ends-clear w t (ap backslashes (sym after) ∙ sym c.backslashes-run.ensures ∙ c.if-run-eq0.true))

pub returns-else-is_empty-clause-on : goal.returns-else-is_empty-clause-on
returns-else-is_empty-clause-on c = λ _.
    let w = braces_of c.args.until in
    let t = c.args.source.now in
    let len : c.clear_len.result ≡ clear_len w t = c.clear_len.ensures ∙ ap (clear_len w) c.as_bytes.ensures.value in
    rw (c.split_at.ensures.front, c.split_at.ensures.back, len) (GoesOn-clear w t)
