use Rattle.std.proofs.Common.{arith, sym, ◌∙◌}
use Rattle.std.proofs.lemmas.List.Sums.{prefix_len_is}
use Rattle.handlebars_helpers.specs.SafeUrl.{may_be_of_scheme}
use Rattle.handlebars_helpers.proofs.safe_url.scheme_len.Goals as goal

pub returns-else-may_be_of_scheme-clause-len : goal.returns-else-may_be_of_scheme-clause-len
returns-else-may_be_of_scheme-clause-len c = sym (prefix_len_is may_be_of_scheme c.args.bytes.now c.loop-n.n 0 c.loop-n.invariant.within c.loop-n.invariant.pass (λ _. sym c.may_be_of_scheme.ensures ∙ c.if-may_be_of_scheme.false))

pub returns-after-loop-n-clause-len : goal.returns-after-loop-n-clause-len
returns-after-loop-n-clause-len c = sym (prefix_len_is may_be_of_scheme c.args.bytes.now c.loop-n.n 0 c.loop-n.invariant.within c.loop-n.invariant.pass (λ lt. absurd (omega arith)))
