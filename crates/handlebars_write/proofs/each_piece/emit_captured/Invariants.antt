use Rattle.std.proofs.Common.{◌≡◌, List, drop, false, map}
use Rattle.handlebars_semantics.specs.Pieces.{Piece}
use Rattle.handlebars_semantics.specs.Emitted.{emitted}
use Rattle.handlebars_expand.specs.PiecesView.{emitted_by}
use Rattle.handlebars_write.specs.ModeView.{piece_mode}
use Rattle.handlebars_write.specs.View.{Answered, Holding, IsSame, held_in}
use Rattle.handlebars_write.specs.Writes.{WritesAsIs}
use Rattle.handlebars_write.proofs.each_piece.emit_captured.Given as goal

-- Writing the rest from here is writing all from the start.
abbrev pub invariant-pieces : goal.invariant-pieces
invariant-pieces g l = record {
  left : (ps : List Piece) → map emitted ps ≡ map emitted_by l.piece-items → (r : Answered) (last : Holding)
      → WritesAsIs (drop l.piece-index ps) false g.O.PieceOutput.may_give (held_in (piece_mode g.O.PieceOutput.received g.O.PieceOutput.may_give) l.sink) r last
      → WritesAsIs ps false g.O.PieceOutput.may_give (held_in (piece_mode g.O.PieceOutput.received g.O.PieceOutput.may_give) l.initial.sink) r last;
  same : IsSame l.initial.sink l.sink;
}
