use Rattle.handlebars_base.proofs.Writes.{whole-nil}
use Rattle.handlebars_base.proofs.json.value.write.write_separator.Goals as goal

pub returns-then-first-clause-written : goal.returns-then-first-clause-written
returns-then-first-clause-written g c = rw c.if-first.true (whole-nil _)
