use Rattle.handlebars_base.proofs.ShownValues.{rendered-string}
use Rattle.handlebars_write.proofs.Puts.{text_all, text_reported}
use Rattle.handlebars_write.proofs.to_output.show_to.Goals as goal

pub returns-then-entities : goal.returns-then-entities
returns-then-entities g c = rw (c.if-entities.true, rendered-string c.args.value.now c.in-String.text c.in-String.is)
    (rw c.as_str.ensures.value at c.escape_to.ensures)

pub returns-else-entities : goal.returns-else-entities
returns-else-entities g c = rw (c.if-entities.false, rendered-string c.args.value.now c.in-String.text c.in-String.is)
    (rw c.as_str-else-entities.ensures.value at c.write_to.ensures)

pub returns-in-Ok : goal.returns-in-Ok
returns-in-Ok g c = text_all _ _ _ c.in-Ok.ensures.written

pub returns-in-Err : goal.returns-in-Err
returns-in-Err g c = text_reported _ _ _ c.in-Err.write_error c.write_error_outcome.result c.in-Err.ensures.written c.in-Err.ensures.given c.write_error_outcome.ensures
