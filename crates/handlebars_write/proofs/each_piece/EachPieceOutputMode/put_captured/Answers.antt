use Rattle.handlebars_write.proofs.Puts.{captured_as_pieces}
use Rattle.handlebars_write.proofs.each_piece.EachPieceOutputMode.put_captured.Goals as goal

pub returns-clause-writes : goal.returns-clause-writes
returns-clause-writes g c = λ ps are. c.emit_captured.ensures.writes ps (captured_as_pieces ps c.args.captured.now are)
