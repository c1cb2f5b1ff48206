use Rattle.std.proofs.Common.{arith, rules, sym, ◌∙◌}
use Rattle.handlebars_base.proofs.PathMarks.{ups_some, ups_none, after_up_length}
use Rattle.handlebars_base.proofs.json.path.marks.ups.Goals as goal

pub loop-after-smaller : goal.loop-after-smaller
loop-after-smaller c = omega (arith, after_up_length c.loop-after.rest.now c.in-Some.after.now (sym c.in-Some.ensures))

pub loop-after-preserved : goal.loop-after-preserved
loop-after-preserved c = (
  search rules,
  sym (ups_some c.loop-after.level c.loop-after.rest.now c.in-Some.after.now (sym c.in-Some.ensures)) ∙ c.loop-after.invariant.1,
  omega (arith, after_up_length c.loop-after.rest.now c.in-Some.after.now (sym c.in-Some.ensures), c.loop-after.invariant.2),
)

pub returns : goal.returns
returns c = sym (ups_none c.loop-after.level c.loop-after.rest.now (sym c.in_default.ensures)) ∙ c.loop-after.invariant.1
