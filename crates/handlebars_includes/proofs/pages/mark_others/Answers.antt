use Rattle.handlebars_includes.proofs.Targets.{others-next}
use Rattle.handlebars_includes.proofs.pages.mark_others.Goals as goal

pub inclusions-preserved : goal.inclusions-preserved
inclusions-preserved c =
    others-next c.args.index c.args.inclusions.now c.inclusions.inclusion-index _ c.args.marks.now.items c.inclusions.marks.items
    c.mark_other.new.marks.items c.inclusions-test.true c.inclusions.invariant c.mark_other.ensures
