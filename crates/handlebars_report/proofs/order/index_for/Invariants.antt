use Rattle.std.proofs.Common.{◌≡◌, ◌≤◌, ◌<◌, get_or, length, true}
use Rattle.handlebars_report.specs.Inserting.{is_before}
use Rattle.handlebars_report.specs.declared.problem.Problem.{Problem}
use Rattle.handlebars_report.proofs.order.index_for.Given as goal

abbrev pub invariant-after : goal.invariant-after
invariant-after l = record {
  within : l.at ≤ length l.problems;
  before : (d : Problem) → l.at < length l.problems → is_before l.problem (get_or l.problems l.at d) ≡ true;
}

abbrev pub decreases-after : goal.decreases-after
decreases-after l = l.at
