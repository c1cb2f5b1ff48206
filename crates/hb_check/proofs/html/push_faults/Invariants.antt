use Rattle.std.proofs.Common.{map, take}
use Rattle.std.specs.List.{AllZip}
use Rattle.handlebars_html.specs.RowsView.{fault_of}
use Rattle.hb_check.specs.Reported.{AddsSome, ReportsHtml}
use Rattle.hb_check.proofs.html.push_faults.Given as goal

abbrev pub invariant-faults : goal.invariant-faults
invariant-faults l =
    AddsSome (AllZip (ReportsHtml l.sources) (map fault_of (take l.fault-index l.faults))) l.fn.problems.items l.problems.items
