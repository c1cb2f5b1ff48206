use Rattle.std.proofs.Common.{◌∷◌, [], map, ap, ◌∙◌}
use Rattle.std.proofs.lemmas.List.{map-append}
use Rattle.handlebars_report.specs.View.{problem_view}
use Rattle.hb_check.proofs.problems.push_error.Goals as goal

pub returns : goal.returns
returns c = (
  problem_view c.in_ok-problem.problem ∷ [],
  c.in_ok-problem.ensures,
  ap (map problem_view) c.in_ok-push.ensures.items
      ∙ map-append problem_view c.args.problems.now.items (c.in_ok-problem.problem ∷ []),
)
