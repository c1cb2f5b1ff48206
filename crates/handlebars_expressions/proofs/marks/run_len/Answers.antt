use Rattle.std.proofs.Common.{arith, sym, ◌∙◌}
use Rattle.std.proofs.lemmas.List.Sums.{prefix_len_is}
use Rattle.handlebars_expressions.specs.Literal.{continues_literal}
use Rattle.handlebars_expressions.proofs.marks.run_len.Goals as goal

pub returns-else-goes_on : goal.returns-else-goes_on
returns-else-goes_on c =
    sym (prefix_len_is continues_literal c.args.bytes.now c.loop-n.n 0 c.loop-n.invariant.within c.loop-n.invariant.pass
    (λ _. sym c.goes_on.ensures ∙ c.if-goes_on.false))

pub returns-after-loop-n : goal.returns-after-loop-n
returns-after-loop-n c =
    sym (prefix_len_is continues_literal c.args.bytes.now c.loop-n.n 0 c.loop-n.invariant.within c.loop-n.invariant.pass
    (λ lt. absurd (omega arith)))
