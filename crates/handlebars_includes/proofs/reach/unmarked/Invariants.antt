use Rattle.std.proofs.Common.{◌≡◌, ◌++◌, drop}
use Rattle.handlebars_includes.specs.Graph.{unmarked_from}
use Rattle.handlebars_includes.proofs.reach.unmarked.Given as goal

abbrev pub invariant-marks : goal.invariant-marks
invariant-marks l = l.indices.items ++ unmarked_from l.index (drop l.index l.marks) ≡ unmarked_from 0 l.marks
