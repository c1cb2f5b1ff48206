use Rattle.std.proofs.Common.{◌≡◌, drop}
use Rattle.handlebars_base.specs.EscapeLaws.{marks_in}
use Rattle.handlebars_markup.proofs.check.blind.has_marks.Given as goal

abbrev pub invariant-loop-byte : goal.invariant-loop-byte
invariant-loop-byte l = marks_in (drop l.byte-index l.byte-items) ≡ marks_in l.byte-items
