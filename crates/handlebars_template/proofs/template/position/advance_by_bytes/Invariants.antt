use Rattle.std.proofs.Common.{◌≡◌, ◌≤◌, ◌+◌, ◌-◌, take}
use Rattle.std.specs.Prelude.{fold}
use Rattle.handlebars_template.specs.TreeView.{position_of}
use Rattle.handlebars_template.proofs.Columns.{position_after_byte}
use Rattle.handlebars_template.proofs.template.position.advance_by_bytes.Given as goal

abbrev pub invariant-loop-at : goal.invariant-loop-at
invariant-loop-at l = record {
  value : record { line = l.line; column = l.column + (l.at - l.from) } ≡ fold position_after_byte (position_of l.fn.position) (take l.at l.bytes);
  within : l.from ≤ l.at;
  line : l.line ≤ l.fn.position.0 + l.at;
  column : l.column + (l.at - l.from) ≤ l.fn.position.1 + l.at;
}
