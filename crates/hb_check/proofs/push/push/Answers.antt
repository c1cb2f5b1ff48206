use Rattle.std.proofs.Common.{◌∷◌, [], map, ap, ◌∙◌}
use Rattle.std.proofs.lemmas.List.{map-append}
use Rattle.handlebars_report.specs.View.{problem_view}
use Rattle.hb_check.proofs.push.push.Goals as goal

pub returns-clause-made : goal.returns-clause-made
returns-clause-made c = (
  problem_view c.in_ok-problem.problem ∷ [],
  c.in_ok-problem.ensures.made,
  ap (map problem_view) c.in_ok-push.ensures.items
      ∙ map-append problem_view c.args.problems.now.items (c.in_ok-problem.problem ∷ []),
)

pub returns-clause-notes : goal.returns-clause-notes
returns-clause-notes c = (
  problem_view c.in_ok-problem.problem ∷ [],
  c.in_ok-problem.ensures.notes,
  ap (map problem_view) c.in_ok-push.ensures.items
      ∙ map-append problem_view c.args.problems.now.items (c.in_ok-problem.problem ∷ []),
)
