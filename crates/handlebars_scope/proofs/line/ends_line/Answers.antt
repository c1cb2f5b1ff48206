use Rattle.std.proofs.Common.{refl}
use Rattle.std.proofs.lemmas.Bool.{eq-eqb, ne_eqb}
use Rattle.handlebars_scope.proofs.Lines.{ends_line-last}
use Rattle.handlebars_scope.proofs.line.ends_line.Goals as goal

pub returns-then-last-eq10 : goal.returns-then-last-eq10
returns-then-last-eq10 c = rw (ends_line-last c.args.text.now c.in-len1-up.len_at_least, eq-eqb _ 10 c.if-last-eq10.true) refl

pub returns-else-last-eq10 : goal.returns-else-last-eq10
returns-else-last-eq10 c = rw (ends_line-last c.args.text.now c.in-len1-up.len_at_least, ne_eqb _ 10 c.if-last-eq10.false) refl
