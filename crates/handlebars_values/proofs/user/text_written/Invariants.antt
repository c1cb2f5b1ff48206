use Rattle.std.proofs.Common.{◌≡◌, ◌++◌, drop, map, string_bytes}
use Rattle.handlebars_helpers.specs.UserView.{step_of}
use Rattle.handlebars_semantics.specs.Values.{steps_text}
use Rattle.handlebars_values.proofs.user.text_written.Given as goal

abbrev pub invariant-steps : goal.invariant-steps
invariant-steps l =
    string_bytes l.text ++ steps_text (map step_of (drop l.step-index l.step-items)) ≡ steps_text (map step_of l.step-items)
