use Rattle.std.proofs.Common.{◌≡◌, ◌++◌, length, map}
use Rattle.std.specs.List.Sorted.{IsPermutation}
use Rattle.std.specs.Vec.Iter.{into_iter_items, into_iter_len}
use Rattle.handlebars_report.specs.Report.{report_view}
use Rattle.handlebars_report.specs.View.{problem_view}
use Rattle.hb_check.proofs.problems.reported.Given as goal

-- What is reported, with what is left, is all.
abbrev pub invariant-problems : goal.invariant-problems
invariant-problems l = record {
  left : IsPermutation (map problem_view (into_iter_items l.initial.problem-iterator))
      (map problem_view (into_iter_items l.problem-iterator) ++ report_view l.report);
  sized : into_iter_len l.problem-iterator ≡ length (into_iter_items l.problem-iterator);
}
