use Rattle.handlebars_includes.proofs.Targets.{extends-next}
use Rattle.handlebars_includes.proofs.reach.visit_all.Goals as goal

pub inclusions-preserved : goal.inclusions-preserved
inclusions-preserved c =
    extends-next c.args.inclusions.now c.inclusions.inclusion-index _ c.args.marks.now.items c.inclusions.marks.items
    c.visit.new.marks.items c.args.pending.now.items c.inclusions.pending.items c.visit.new.pending.items
    c.inclusions-test.true c.inclusions.invariant c.in_ok-visit.ensures
