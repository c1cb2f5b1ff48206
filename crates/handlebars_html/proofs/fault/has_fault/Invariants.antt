use Rattle.std.proofs.Common.{◌≡◌, drop, map}
use Rattle.handlebars_html.specs.Faults.{has_fault}
use Rattle.handlebars_html.specs.RowsView.{fault_of}
use Rattle.handlebars_html.proofs.fault.has_fault.Given as goal

abbrev pub invariant-faults : goal.invariant-faults
invariant-faults l =
    has_fault (map fault_of (drop l.other-index l.faults)) (fault_of l.fault)
    ≡ has_fault (map fault_of l.faults) (fault_of l.fault)
