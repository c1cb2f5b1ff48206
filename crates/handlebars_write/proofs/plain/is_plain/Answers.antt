use Rattle.std.proofs.Common.{rules}
use Rattle.handlebars_write.proofs.Unescaped.{escaped-nil, escaped-more, escaped-all}
use Rattle.handlebars_write.proofs.plain.is_plain.Goals as goal

pub loop-at-init : goal.loop-at-init
loop-at-init c = escaped-nil

pub loop-at-preserved : goal.loop-at-preserved
loop-at-preserved c = escaped-more _ _ c.loop-at-test.true (search rules) c.loop-at.invariant

pub returns : goal.returns
returns c = λ _. escaped-all _ _ c.loop-at-test.false c.loop-at.invariant
