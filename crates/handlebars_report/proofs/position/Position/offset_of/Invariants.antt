use Rattle.std.proofs.Common.{◌≡◌}
use Rattle.handlebars_report.specs.Position.{IsUpTo, position_after}
use Rattle.handlebars_report.proofs.position.Position.offset_of.Given as goal

abbrev pub invariant-chars : goal.invariant-chars
invariant-chars l = record {
  reached : l.position ≡ position_after l.yielded;
  up_to : IsUpTo l.line l.column l.position;
}
