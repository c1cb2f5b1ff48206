use Rattle.std.proofs.Common.{◌-◌, ◌<◌, get_or, sym, ap, ◌∙◌, arith}
use Rattle.handlebars_lexer.specs.Trim.{is_break, dark_len}
use Rattle.handlebars_lexer.proofs.Blanks.{fresh-none, fresh-last}
use Rattle.handlebars_lexer.proofs.trim.fresh_after.Goals as goal

pub returns-then-dark-eq0 : goal.returns-then-dark-eq0
returns-then-dark-eq0 c = fresh-none c.args.fresh c.args.text.now (ap dark_len (sym c.as_bytes-bytes.ensures.value) ∙ sym c.dark_len-dark.ensures.len ∙ omega (arith, c.if-dark-eq0.true))

pub returns-else-dark-eq0 : goal.returns-else-dark-eq0
returns-else-dark-eq0 c =
    let bytes = c.as_bytes-bytes.result.now in
    let same = c.as_bytes-bytes.ensures.value in
    let len = c.dark_len-dark.ensures.len in
    let some : 0 < dark_len bytes = omega (arith, c.if-dark-eq0.false, len) in
    rw (← same) (c.is_break.ensures ∙ ap is_break (ap (λ n. get_or bytes (n - 1) 0) len) ∙ fresh-last c.args.fresh bytes some)
