use Rattle.std.proofs.Common.{map, take}
use Rattle.handlebars_markup.specs.FaultsView.{fault_of}
use Rattle.hb_check.specs.Reported.{ReportsMarkup}
use Rattle.hb_check.proofs.Reports.{adds-next, map-take_more}
use Rattle.hb_check.proofs.markup.add_markup_problems.Goals as goal

pub faults-preserved : goal.faults-preserved
faults-preserved g c =
    adds-next (ReportsMarkup c.args.sources.now) (map fault_of (take c.faults.fault-index c.deref-fault-items.result.now)) _
    (fault_of c.fault-item.result) c.args.problems.now.items c.faults.problems.items _
    (map-take_more fault_of c.deref-fault-items.result.now c.faults.fault-index c.fault-item.result c.faults-test.true c.fault-item.is)
    c.faults.invariant c.in_ok-add_fault.ensures
