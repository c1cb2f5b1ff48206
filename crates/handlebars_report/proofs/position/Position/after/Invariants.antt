use Rattle.std.proofs.Common.{◌≡◌}
use Rattle.handlebars_report.specs.Position.{position_after}
use Rattle.handlebars_report.proofs.position.Position.after.Given as goal

abbrev pub invariant-chars : goal.invariant-chars
invariant-chars l = l.position ≡ position_after l.yielded
