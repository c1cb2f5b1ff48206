use Rattle.handlebars_semantics.specs.Answer.{is_stored, is_not}
use Rattle.handlebars.proofs.AnswerLaws.{FromName-one}
use Rattle.handlebars.proofs.Writing.{Writes-begun, writes_if}
use Rattle.handlebars.proofs.registry.RegistryOf.write_named.Goals as goal

pub returns-in-Ok : goal.returns-in-Ok
returns-in-Ok g c = Writes-begun _ _ (FromName-one _ _) _ (is_stored c.in-Ok.ensures.ok) c.write_template.ensures

pub returns-in-Err : goal.returns-in-Err
returns-in-Err g c = writes_if _ _ _ c.in-Err.e _ (is_not c.in-Err.ensures.none) c.in-Err.ensures.err
