use Rattle.handlebars_write.proofs.each_piece.put_piece_within.Goals as goal

pub returns-clause-emits : goal.returns-clause-emits
returns-clause-emits g c = λ known. rw (c.origin-origin.ensures known) at c.emit.ensures.emits
