use Rattle.std.proofs.Common.{map, take}
use Rattle.std.specs.List.{AllZip}
use Rattle.handlebars_markup.specs.FaultsView.{fault_of}
use Rattle.hb_check.specs.Reported.{AddsSome, ReportsMarkup}
use Rattle.hb_check.proofs.markup.add_markup_problems.Given as goal

abbrev pub invariant-faults : goal.invariant-faults
invariant-faults g l =
    AddsSome (AllZip (ReportsMarkup l.sources) (map fault_of (take l.fault-index l.fault-items))) l.fn.problems.items l.problems.items
