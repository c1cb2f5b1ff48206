use Rattle.std.proofs.Common.{ℕ, ◌+◌, ◌*◌, ◌++◌, ◌∷◌, [], List, length}
use Rattle.handlebars_includes.specs.Graph.{MarksReached}
use Rattle.handlebars_includes.specs.Reaching.{unmarked}
use Rattle.handlebars_includes.specs.View.{rows}
use Rattle.handlebars_includes.proofs.Reached.{Exploring}
use Rattle.handlebars_includes.proofs.reach.reach.Given as goal

abbrev pub invariant-pending : goal.invariant-pending
invariant-pending l =
    (starts : List ℕ) → MarksReached (rows l.graph) starts l.fn.marks.items
    → Exploring (rows l.graph) (starts ++ l.start ∷ []) l.marks.items l.pending.items

abbrev pub decreases-pending : goal.decreases-pending
decreases-pending l = 2 * unmarked l.marks.items + length l.pending.items
