use Rattle.std.proofs.Common.{refl}
use Rattle.handlebars_semantics.specs.Asks.{goes_on, first_fails}
use Rattle.handlebars_elements.proofs.chosen.error_after_arguments.Goals as goal

pub returns-in-Ok : goal.returns-in-Ok
returns-in-Ok g c = λ captured other. (goes_on (c.in-Ok.ensures captured) refl)

pub returns-in-Err : goal.returns-in-Err
returns-in-Err g c = λ captured other. (first_fails (c.in-Err.ensures captured other))
