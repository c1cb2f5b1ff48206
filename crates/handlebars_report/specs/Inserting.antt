-- Where a problem belongs among others.
use Rattle.std.specs.Prelude.{◌≡◌, ℕ, ◌-◌, ◌<◌, ◌≤◌, Bool, true, false, List, length, slice_index_or}
use Rattle.std.specs.Ordering.{is_lt}
use Rattle.handlebars_report.specs.declared.problem.Problem.{Problem}
use Rattle.handlebars_report.specs.Order.{problem_cmp}
use Rattle.handlebars_report.specs.View.{problem_view}

abbrev pub is_before : Problem → Problem → Bool
is_before p q = is_lt (problem_cmp (problem_view p) (problem_view q))

-- where a problem belongs among these in order: after one that it is not before, and before the next one
pub record IsIndexFor (problems : List Problem) (p : Problem) (index : ℕ) : Type 0 where
  pub within : index ≤ length problems
  pub after : (d : Problem) → 0 < index → is_before p (slice_index_or problems (index - 1) d) ≡ false
  pub before : (d : Problem) → index < length problems → is_before p (slice_index_or problems index d) ≡ true
