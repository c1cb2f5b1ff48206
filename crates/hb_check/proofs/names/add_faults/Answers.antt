use Rattle.std.proofs.Common.{map, take}
use Rattle.handlebars_includes.specs.View.{name_of}
use Rattle.handlebars_names.specs.NamesView.{fault_of}
use Rattle.hb_check.specs.Chains.{IsChained}
use Rattle.hb_check.specs.Reported.{ReportsName}
use Rattle.hb_check.proofs.Reports.{adds-next, map-take_more}
use Rattle.hb_check.proofs.names.add_faults.Goals as goal

pub faults-preserved : goal.faults-preserved
faults-preserved c =
    let one_more = map-take_more fault_of c.args.faults.now c.faults.fault-index c.fault-item.result c.faults-test.true c.fault-item.is in
    let done = map fault_of (take c.faults.fault-index c.args.faults.now) in
    record {
      reported = adds-next (ReportsName c.args.sources.now) done _ (fault_of c.fault-item.result) c.args.problems.now.items c.faults.problems.items _
          one_more c.faults.invariant.reported c.in_ok-add_fault.ensures.reported;
      chained = adds-next (IsChained c.args.sources.now (map name_of c.args.templates.now) c.args.chains.now.ways.items) done _
          (fault_of c.fault-item.result) c.args.problems.now.items c.faults.problems.items _ one_more c.faults.invariant.chained
          c.in_ok-add_fault.ensures.chained;
    }
