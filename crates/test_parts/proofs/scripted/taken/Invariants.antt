use Rattle.std.proofs.Common.{◌≡◌, ◌++◌, drop, map}
use Rattle.handlebars_helpers.specs.UserView.{step_of}
use Rattle.handlebars_helpers.specs.View.{helper_view}
use Rattle.test_parts.specs.Scripted.{step_said}
use Rattle.test_parts.proofs.scripted.taken.Given as goal

abbrev pub invariant-steps : goal.invariant-steps
invariant-steps l =
    map step_of l.taken.items ++ map (step_said (helper_view l.h)) (drop l.step-index l.step-items) ≡ map (step_said (helper_view l.h)) l.step-items
