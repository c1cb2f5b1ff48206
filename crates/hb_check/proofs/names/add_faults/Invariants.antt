use Rattle.std.proofs.Common.{map, take}
use Rattle.std.specs.List.{AllZip}
use Rattle.handlebars_includes.specs.View.{name_of}
use Rattle.handlebars_names.specs.NamesView.{fault_of}
use Rattle.hb_check.specs.Chains.{IsChained}
use Rattle.hb_check.specs.Reported.{AddsSome, ReportsName}
use Rattle.hb_check.proofs.names.add_faults.Given as goal

abbrev pub invariant-faults : goal.invariant-faults
invariant-faults l = record {
  reported : AddsSome (AllZip (ReportsName l.sources) (map fault_of (take l.fault-index l.faults))) l.fn.problems.items l.problems.items;
  chained : AddsSome (AllZip (IsChained l.sources (map name_of l.templates) l.chains.ways.items) (map fault_of (take l.fault-index l.faults)))
      l.fn.problems.items l.problems.items;
}
