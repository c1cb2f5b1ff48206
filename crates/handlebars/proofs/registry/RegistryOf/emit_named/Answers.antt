use Rattle.handlebars_semantics.specs.Answer.{is_stored, is_not}
use Rattle.handlebars.proofs.AnswerLaws.{FromName-one}
use Rattle.handlebars.proofs.Emitting.{EmitsPieces-begun, emits_if}
use Rattle.handlebars.proofs.registry.RegistryOf.emit_named.Goals as goal

pub returns-in-Ok : goal.returns-in-Ok
returns-in-Ok g c = EmitsPieces-begun _ _ (FromName-one _ _) _ (is_stored c.in-Ok.ensures.ok) c.emit_template.ensures

pub returns-in-Err : goal.returns-in-Err
returns-in-Err g c = emits_if _ _ _ _ c.in-Err.e _ (is_not c.in-Err.ensures.none) c.in-Err.ensures.err
