use Rattle.std.proofs.Common.{arith, sym}
use Rattle.std.proofs.lemmas.List.Sums.{prefix_len_is}
use Rattle.std.proofs.lemmas.Bool.{ne_eqb}
use Rattle.handlebars_lexer.specs.Text.{is_backslash}
use Rattle.handlebars_lexer.proofs.text.backslashes.Goals as goal

pub returns-else-text-n-eq92 : goal.returns-else-text-n-eq92
returns-else-text-n-eq92 c = sym (prefix_len_is is_backslash c.args.text.now c.run.n 0 c.run.invariant.within c.run.invariant.pass (λ _. ne_eqb _ 92 c.if-text-n-eq92.false))

pub returns-after-run : goal.returns-after-run
returns-after-run c = sym (prefix_len_is is_backslash c.args.text.now c.run.n 0 c.run.invariant.within c.run.invariant.pass (λ lt. absurd (omega arith)))
