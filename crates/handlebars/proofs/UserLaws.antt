-- The law of user-defined parts, in what a run reads.
use Rattle.handlebars_helpers.specs.UserAnswers.{HaveOne, UserAnswers, Registrations}
use Rattle.handlebars_semantics.specs.State.{IsLawful}
use Rattle.handlebars.specs.View.{parts_of}
use Rattle.handlebars.specs.declared.registry.RegistryOf.{RegistryOf}

pub parts-lawful : {E : Type 0} (registered : E → Registrations) (user : E → UserAnswers) (r : RegistryOf E) → HaveOne (user r.entries)
    → IsLawful (parts_of registered user r)
parts-lawful registered user r one = record { helpers = one.helpers; decorators = one.decorators; escape = one.escape }
