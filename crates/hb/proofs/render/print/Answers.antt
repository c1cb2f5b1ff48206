use Rattle.hb.proofs.Reported.{prints_nothing, prints_text}
use Rattle.hb.proofs.render.print.Goals as goal

pub returns-in-Ok : goal.returns-in-Ok
returns-in-Ok g c = prints_text _ _ _ _ _ _ _ _ _ _ _ (rw c.as_str.ensures.value at c.write_out.ensures.ok) c.write_out.ensures.err c.in-Ok.ensures.ok

pub returns-in-Err : goal.returns-in-Err
returns-in-Err g c = prints_nothing _ _ _ _ _ _ _ _ c.in-Err.failure c.in-Err.ensures.err
