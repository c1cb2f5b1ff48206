use Rattle.std.proofs.Common.{◌≡◌, ◌+◌, ◌≤◌, take}
use Rattle.handlebars_data.specs.Position.{position}
use Rattle.handlebars_data.proofs.position.position_of.Given as goal

abbrev pub invariant-loop-byte : goal.invariant-loop-byte
invariant-loop-byte l = (◌≡◌ (l.line, l.column) (position (take l.byte-index l.byte-items))) × (l.line ≤ l.byte-index + 1) × (l.column ≤ l.byte-index + 1)
