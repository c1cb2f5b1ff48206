use Rattle.handlebars_write.proofs.Puts.{text_all, text_reported}
use Rattle.handlebars_write.proofs.to_output.escape_to.Goals as goal

pub returns-in-Ok : goal.returns-in-Ok
returns-in-Ok g c = text_all _ _ _ c.in-Ok.ensures.written

pub returns-in-Err : goal.returns-in-Err
returns-in-Err g c = text_reported _ _ _ c.in-Err.write_error c.write_error_outcome.result c.in-Err.ensures.written c.in-Err.ensures.given c.write_error_outcome.ensures
