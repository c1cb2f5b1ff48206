use Rattle.std.proofs.Common.{refl, ◌∙◌}
use Rattle.handlebars_write.specs.Writes.{piece_lost}
use Rattle.handlebars_write.proofs.each_piece.put_piece.Goals as goal

pub returns-in-Err-clause-emits : goal.returns-in-Err-clause-emits
returns-in-Err-clause-emits g c = piece_lost refl refl

pub returns-in-Ok-clause-emits : goal.returns-in-Ok-clause-emits
returns-in-Ok-clause-emits g c = c.put_piece_within.ensures.emits (c.as_slice.ensures.value ∙ c.in-Ok.ensures)
