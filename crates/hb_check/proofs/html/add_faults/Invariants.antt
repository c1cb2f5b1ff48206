use Rattle.std.proofs.Common.{◌≡◌, length, map}
use Rattle.std.specs.Vec.Iter.{into_iter_items, into_iter_len}
use Rattle.handlebars_html.specs.Faults.{with_faults}
use Rattle.handlebars_html.specs.RowsView.{fault_of}
use Rattle.hb_check.proofs.html.add_faults.Given as goal

-- What is there, with what is left, is what was there, with all.
abbrev pub invariant-faults : goal.invariant-faults
invariant-faults l = record {
  left : with_faults (map fault_of l.all.items) (map fault_of (into_iter_items l.fault-iterator))
      ≡ with_faults (map fault_of l.fn.all.items) (map fault_of (into_iter_items l.initial.fault-iterator));
  sized : into_iter_len l.fault-iterator ≡ length (into_iter_items l.fault-iterator);
}
