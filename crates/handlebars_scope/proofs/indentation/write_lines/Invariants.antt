use Rattle.std.proofs.Common.{◌<◌}
use Rattle.std.specs.Str.{IsCharBoundary}
use Rattle.handlebars_base.specs.Shown.{escaped_if}
use Rattle.handlebars_base.proofs.Writes.{AllBut}
use Rattle.handlebars_scope.specs.Indentation.{indented}
use Rattle.handlebars_scope.proofs.Indents.{HasNoNewline, left_from, read_line}
use Rattle.handlebars_scope.proofs.indentation.write_lines.Given as goal

abbrev pub invariant-loop-at : goal.invariant-loop-at
invariant-loop-at g l = record {
  within : l.written < l.at;
  boundary : IsCharBoundary l.text l.written;
  line : HasNoNewline (read_line l.text l.written l.at);
  left : AllBut (left_from l.indent l.escapes l.text l.written) (indented l.indent (escaped_if l.escapes l.text))
      (g.O.Output.held l.initial.out) (g.O.Output.held l.out);
}
