use Rattle.std.proofs.Common.{◌≡◌, ◌++◌, length, map}
use Rattle.std.specs.Vec.Iter.{into_iter_items, into_iter_len}
use Rattle.handlebars_names.specs.NamesView.{fault_of, finding_of}
use Rattle.handlebars_names.specs.Search.{faults_among}
use Rattle.handlebars_names.proofs.round.into_faults.Given as goal

-- The faults, with those of the findings that are left, are those of all.
abbrev pub invariant-findings : goal.invariant-findings
invariant-findings l = record {
  left : map fault_of l.faults.items ++ faults_among (map finding_of (into_iter_items l.finding-iterator))
      ≡ faults_among (map finding_of (into_iter_items l.initial.finding-iterator));
  sized : into_iter_len l.finding-iterator ≡ length (into_iter_items l.finding-iterator);
}
