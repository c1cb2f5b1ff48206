use Rattle.std.proofs.Common.{map, take}
use Rattle.handlebars_html.specs.RowsView.{fault_of}
use Rattle.hb_check.specs.Reported.{ReportsHtml}
use Rattle.hb_check.proofs.Reports.{adds-next, map-take_more}
use Rattle.hb_check.proofs.html.push_faults.Goals as goal

pub faults-preserved : goal.faults-preserved
faults-preserved c =
    adds-next (ReportsHtml c.args.sources.now) (map fault_of (take c.faults.fault-index c.args.faults.now)) _
    (fault_of c.fault-item.result) c.args.problems.now.items c.faults.problems.items _
    (map-take_more fault_of c.args.faults.now c.faults.fault-index c.fault-item.result c.faults-test.true c.fault-item.is)
    c.faults.invariant c.in_ok-push_fault.ensures
