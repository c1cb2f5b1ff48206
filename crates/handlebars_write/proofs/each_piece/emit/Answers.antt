use Rattle.std.proofs.Common.{refl}
use Rattle.handlebars_write.proofs.Emitted.{piece_ahead, piece_ahead_lost, piece_out, piece_reported}
use Rattle.handlebars_write.proofs.each_piece.emit.Goals as goal

pub returns-in-Ok-clause-emits : goal.returns-in-Ok-clause-emits
returns-in-Ok-clause-emits g c = rw c.in-Out.is
    (piece_out _ _ _ g.O.PieceOutput.received c.in-Out.out.now c.piece.new.self c.in-Ok.ensures.ok)

pub returns-in-Err-clause-emits : goal.returns-in-Err-clause-emits
returns-in-Err-clause-emits g c = rw c.in-Out.is
    (piece_reported _ _ _ g.O.PieceOutput.received c.in-Out.out.now c.piece.new.self c.in-Err.write_error c.write_error_outcome.result c.in-Err.ensures.err
    c.in-Err.ensures.given c.write_error_outcome.ensures)

pub returns-in-Ok-capture-clause-emits : goal.returns-in-Ok-capture-clause-emits
returns-in-Ok-capture-clause-emits g c = rw c.in-Ahead.is
    (piece_ahead _ _ _ c.in-Ahead.ahead.now c.capture.new.self c.in-Ok-capture.ensures.ok)

pub returns-in-Err-capture-clause-emits : goal.returns-in-Err-capture-clause-emits
returns-in-Err-capture-clause-emits g c = rw c.in-Ahead.is
    (piece_ahead_lost _ _ _ c.in-Ahead.ahead.now c.capture.new.self c.in-Err-capture.ensures.err refl)
