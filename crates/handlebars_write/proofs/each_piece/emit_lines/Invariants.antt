use Rattle.std.proofs.Common.{◌≡◌, ◌<◌, false}
use Rattle.std.specs.Str.{IsCharBoundary}
use Rattle.handlebars_scope.specs.Indentation.{lines_of}
use Rattle.handlebars_scope.proofs.Indents.{HasNoNewline, read_line}
use Rattle.handlebars_semantics.specs.Pieces.{Origin, indent_pieces, of_indent, pieces_between, occurrence_of}
use Rattle.handlebars_semantics.specs.Emitted.{provenance}
use Rattle.handlebars_expand.specs.PiecesView.{origin_seen}
use Rattle.handlebars_write.specs.ModeView.{piece_mode}
use Rattle.handlebars_write.specs.View.{Answered, Holding, IsSame, held_in}
use Rattle.handlebars_write.specs.Writes.{WritesAsIs}
use Rattle.handlebars_write.proofs.Emits.{pieces_from}
use Rattle.handlebars_write.proofs.each_piece.emit_lines.Given as goal

-- Writing the rest from here is writing all from the start.
abbrev pub invariant-lines : goal.invariant-lines
invariant-lines g l = record {
  within : l.written < l.at;
  boundary : IsCharBoundary l.text l.written;
  line : HasNoNewline (read_line l.text l.written l.at);
  left : (o : Origin) → provenance o ≡ origin_seen l.origin → provenance (of_indent (occurrence_of o)) ≡ origin_seen l.indentation
      → (r : Answered) (last : Holding)
      → WritesAsIs (pieces_from o l.indent l.text l.written) false g.O.PieceOutput.may_give (held_in (piece_mode g.O.PieceOutput.received g.O.PieceOutput.may_give) l.sink) r last
      → WritesAsIs (pieces_between o (indent_pieces o l.indent) (lines_of l.text)) false g.O.PieceOutput.may_give
      (held_in (piece_mode g.O.PieceOutput.received g.O.PieceOutput.may_give) l.initial.sink) r last;
  same : IsSame l.initial.sink l.sink;
}
