use Rattle.std.proofs.Common.{arith, sym, ◌∙◌}
use Rattle.std.proofs.lemmas.List.Sums.{prefix_len_is}
use Rattle.handlebars_helpers.specs.SafeUrl.{is_leading}
use Rattle.handlebars_helpers.proofs.safe_url.leading_len.Goals as goal

pub returns-else-is_leading-clause-len : goal.returns-else-is_leading-clause-len
returns-else-is_leading-clause-len c = sym (prefix_len_is is_leading c.args.bytes.now c.loop-n.n 0 c.loop-n.invariant.within c.loop-n.invariant.pass (λ _. sym c.is_leading.ensures ∙ c.if-is_leading.false))

pub returns-after-loop-n-clause-len : goal.returns-after-loop-n-clause-len
returns-after-loop-n-clause-len c = sym (prefix_len_is is_leading c.args.bytes.now c.loop-n.n 0 c.loop-n.invariant.within c.loop-n.invariant.pass (λ lt. absurd (omega arith)))
