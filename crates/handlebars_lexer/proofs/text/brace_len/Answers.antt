use Rattle.std.proofs.Common.{arith, sym, ap}
use Rattle.std.proofs.lemmas.List.Sums.{prefix_len_is}
use Rattle.handlebars_lexer.proofs.Texts.{is_other}
use Rattle.handlebars_lexer.proofs.text.brace_len.Goals as goal

pub returns-else-text-n-ne123-clause-len : goal.returns-else-text-n-ne123-clause-len
returns-else-text-n-ne123-clause-len c = sym (prefix_len_is is_other c.args.text.now c.others.n 0 c.others.invariant.within c.others.invariant.pass (λ _. ap (λ b. is_other b) c.if-text-n-ne123.false))

pub returns-after-others-clause-len : goal.returns-after-others-clause-len
returns-after-others-clause-len c = sym (prefix_len_is is_other c.args.text.now c.others.n 0 c.others.invariant.within c.others.invariant.pass (λ lt. absurd (omega arith)))
