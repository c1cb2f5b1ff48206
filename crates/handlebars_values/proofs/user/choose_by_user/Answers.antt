use Rattle.handlebars_semantics.specs.Asks.{goes_on, first_fails}
use Rattle.std.proofs.Common.{refl}
use Rattle.handlebars_expand.specs.UserChoice.{user_choice_of}
use Rattle.handlebars_expand.proofs.Values.{yields-answer, yields-then}
use Rattle.handlebars_values.proofs.ChangedData.{changed-seen}
use Rattle.handlebars_values.proofs.user.choose_by_user.Goals as goal

pub returns-in-Ok-Some : goal.returns-in-Ok-Some
returns-in-Ok-Some g c = λ captured. goes_on (rw (changed-seen c.as_ref.result c.as_ref.ensures.value) at (rw c.in-Ok-Some.field-0-is at c.in-Ok-Some.ensures)) refl

pub returns-in-Ok : goal.returns-in-Ok
returns-in-Ok g c = λ captured.
    yields-then user_choice_of _ _ c.choose_offer.result
    (rw (changed-seen c.as_ref.result c.as_ref.ensures.value) at (rw c.in-Ok-None.field-0-is at c.in-Ok-None.ensures))
    (yields-then user_choice_of _ _ c.choose_offer.result (rw (changed-seen c.as_ref-in-Ok-None.result c.as_ref-in-Ok-None.ensures.value) at c.in-Ok.ensures)
    (yields-answer user_choice_of _ c.choose_offer.result (rw c.strict.ensures at c.choose_offer.ensures)))

pub returns-in-Err-offer_of : goal.returns-in-Err-offer_of
returns-in-Err-offer_of g c = λ captured other.
    goes_on (rw (changed-seen c.as_ref.result c.as_ref.ensures.value) at (rw c.in-Ok-None.field-0-is at c.in-Ok-None.ensures))
    (first_fails (rw (changed-seen c.as_ref-in-Ok-None.result c.as_ref-in-Ok-None.ensures.value) at (c.in-Err-offer_of.ensures other)))

pub returns-in-Err : goal.returns-in-Err
returns-in-Err g c = λ captured other. first_fails (rw (changed-seen c.as_ref.result c.as_ref.ensures.value) at (c.in-Err.ensures other))
