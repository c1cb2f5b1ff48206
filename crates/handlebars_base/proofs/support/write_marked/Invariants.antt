use Rattle.std.proofs.Common.{◌≤◌, ◌++◌}
use Rattle.std.specs.Str.{IsCharBoundary}
use Rattle.handlebars_base.specs.Escape.{escaped}
use Rattle.handlebars_base.proofs.Writes.{AllBut}
use Rattle.handlebars_base.proofs.EscapedRuns.{left_at}
use Rattle.handlebars_base.proofs.support.write_marked.Given as goal

abbrev pub invariant-loop-at : goal.invariant-loop-at
invariant-loop-at g l = record {
  within : l.written ≤ l.at;
  boundary : IsCharBoundary l.text l.written;
  left : AllBut (l.piece.bytes ++ left_at l.text l.written l.at) (escaped l.text) (g.O.Output.held l.initial.out) (g.O.Output.held l.out);
}
