use Rattle.handlebars_write.proofs.each_piece.emit_put.Goals as goal

pub returns-in-None-clause-writes : goal.returns-in-None-clause-writes
returns-in-None-clause-writes g c = λ o is. rw c.in-None.is (c.emit_some.ensures.writes o is)

pub returns-in-Some-clause-writes : goal.returns-in-Some-clause-writes
returns-in-Some-clause-writes g c = λ o is. rw c.in-Some.is (c.emit_under.ensures.writes o is)
