use Rattle.hb.proofs.render.whole_text.Goals as goal

pub returns-clause-err : goal.returns-clause-err
returns-clause-err g c = rw c.in_ok-rc.ensures.state at c.text_of.ensures.err
