use Rattle.handlebars_base.proofs.Writes.{begins, next_write, failed_write, last_write}
use Rattle.handlebars_base.proofs.support.write_after.Goals as goal

pub returns-in_err-write-clause-written : goal.returns-in_err-write-clause-written
returns-in_err-write-clause-written g c =
    let piece = rw c.as_str.ensures.value at c.in_err-write.ensures.written in
    failed_write _ c.args.text.now c.from_residual.ensures.0 (begins _ _) piece

pub returns-clause-written : goal.returns-clause-written
returns-clause-written g c =
    let piece = rw c.as_str.ensures.value at c.in_ok-write.ensures.written in
    last_write _ _ (next_write (begins _ _) piece) c.write-2.ensures.written
