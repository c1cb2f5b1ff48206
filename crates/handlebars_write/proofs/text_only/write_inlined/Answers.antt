use Rattle.handlebars_write.proofs.Puts.{text_ahead}
use Rattle.handlebars_write.proofs.text_only.write_inlined.Goals as goal

pub returns-in-Out-clause-writes : goal.returns-in-Out-clause-writes
returns-in-Out-clause-writes g c = rw c.in-Out.is c.write_to.ensures

pub returns-in-Ahead-clause-writes : goal.returns-in-Ahead-clause-writes
returns-in-Ahead-clause-writes g c = rw c.in-Ahead.is
    (text_ahead _ c.in-Ahead.ahead.now (record c.in-Ahead.ahead.now { text = c.write_to-in-Ahead.new.out }) c.write_to-in-Ahead.ensures)
