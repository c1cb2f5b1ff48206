use Rattle.std.proofs.Common.{◌≡◌, take}
use Rattle.handlebars_base.specs.Escape.{escaped}
use Rattle.handlebars_write.proofs.plain.is_plain.Given as goal

abbrev pub invariant-loop-at : goal.invariant-loop-at
invariant-loop-at l = escaped (take l.at l.bytes) ≡ take l.at l.bytes
