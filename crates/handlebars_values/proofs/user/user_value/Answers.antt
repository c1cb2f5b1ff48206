use Rattle.std.proofs.Common.{refl}
use Rattle.handlebars_helpers.specs.Callee.{user}
use Rattle.handlebars_helpers.specs.View.{helper_view}
use Rattle.handlebars_semantics.specs.Asks.{goes_on, first_fails}
use Rattle.handlebars_semantics.specs.Values.{HasRegisteredValue}
use Rattle.handlebars_expand.specs.Boxed.{answer_of, error_of}
use Rattle.handlebars_expand.proofs.Propagated.{yields-propagated}
use Rattle.handlebars_expand.proofs.Values.{yields-then}
use Rattle.handlebars_values.specs.ParamView.{value_found}
use Rattle.handlebars_values.specs.View.{setting_in, state_with}
use Rattle.handlebars_values.proofs.ChangedData.{changed-seen}
use Rattle.handlebars_values.proofs.user.user_value.Goals as goal

pub returns-in-Ok-Value-clause-value : goal.returns-in-Ok-Value-clause-value
returns-in-Ok-Value-clause-value g c = λ captured. goes_on (rw (changed-seen c.as_ref.result c.as_ref.ensures.value) at (rw c.in-Ok-Value.field-0-is at c.in-Ok-Value.ensures)) refl

pub returns-in-Ok-Missing-clause-value : goal.returns-in-Ok-Missing-clause-value
returns-in-Ok-Missing-clause-value g c = λ captured. goes_on (rw (changed-seen c.as_ref.result c.as_ref.ensures.value) at (rw c.in-Ok-Missing.field-0-is at c.in-Ok-Missing.ensures)) refl

pub returns-in-Ok-NotOffered-clause-value : goal.returns-in-Ok-NotOffered-clause-value
returns-in-Ok-NotOffered-clause-value g c = λ captured.
    yields-then value_found _ _ (answer_of c.written_value.result)
    (rw (changed-seen c.as_ref.result c.as_ref.ensures.value) at (rw c.in-Ok-NotOffered.field-0-is at c.in-Ok-NotOffered.ensures))
    (c.written_value.ensures.value captured)

pub returns-in-Err-clause-value : goal.returns-in-Err-clause-value
returns-in-Err-clause-value g c = λ captured.
    yields-propagated (HasRegisteredValue (setting_in g.P.Registered.parts c.args.environment.now) (state_with captured c.args.run.now) (user c.args.name.now) (helper_view c.args.view.now))
    c.in-Err.e (error_of c.new.result) c.new.ensures
    (λ other. first_fails (rw (changed-seen c.as_ref.result c.as_ref.ensures.value) at (c.in-Err.ensures other)))
