use Rattle.std.proofs.Common.{arith, rules}
use Rattle.handlebars_base.proofs.EscapedRuns.{escaped-nil, plain-more, is_plain-end}
use Rattle.handlebars_base.proofs.support.plain_len.Goals as goal

pub loop-at-init : goal.loop-at-init
loop-at-init c = escaped-nil

pub loop-at-preserved : goal.loop-at-preserved
loop-at-preserved c = plain-more _ _ c.loop-at-test.true (search rules) c.loop-at.invariant

pub returns-then-is_some : goal.returns-then-is_some
returns-then-is_some c = record { within = omega arith; plain = c.loop-at.invariant }

pub returns : goal.returns
returns c = is_plain-end _ _ c.loop-at-test.false c.loop-at.invariant
