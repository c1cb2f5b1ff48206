use Rattle.std.proofs.Common.{◌≡◌, drop}
use Rattle.handlebars_base.specs.EscapeLaws.{marks_in}
use Rattle.test_cases.proofs.marks.are_marks.Given as goal

abbrev pub invariant-loop-byte : goal.invariant-loop-byte
invariant-loop-byte l = marks_in (drop l.byte-index l.text) ≡ l.left → marks_in l.text ≡ l.fn.marks
