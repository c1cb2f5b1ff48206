use Rattle.std.proofs.Common.{refl, ap, ◌∙◌}
use Rattle.serde_json.specs.Data.{string}
use Rattle.handlebars_base.specs.Answers.{gives}
use Rattle.handlebars_base.specs.Scoped.{Found, value}
use Rattle.handlebars_helpers.specs.UserHelper.{not_offered}
use Rattle.handlebars_helpers.specs.View.{helper_view}
use Rattle.handlebars_semantics.specs.Asks.{goes_on, first_fails}
use Rattle.handlebars_semantics.specs.Values.{offer_or_text}
use Rattle.handlebars_expand.specs.Boxed.{error_of}
use Rattle.handlebars_expand.proofs.Propagated.{yields-propagated}
use Rattle.handlebars_expand.proofs.Values.{view-String}
use Rattle.handlebars_values.specs.View.{setting_in, state_with}
use Rattle.handlebars_values.proofs.ChangedData.{changed-seen}
use Rattle.handlebars_values.proofs.user.written_value.Goals as goal

pub returns-in-Ok-None-clause-value : goal.returns-in-Ok-None-clause-value
returns-in-Ok-None-clause-value g c = λ captured.
    goes_on (rw (changed-seen c.as_ref.result c.as_ref.ensures.value) at (rw c.in-Ok-None.field-0-is at c.in-Ok-None.ensures))
    (ap (λ d. gives (value d)) c.empty_text.ensures)

pub returns-in_ok-text_written-in-Ok-Some-clause-value : goal.returns-in_ok-text_written-in-Ok-Some-clause-value
returns-in_ok-text_written-in-Ok-Some-clause-value g c = λ captured.
    goes_on (rw (changed-seen c.as_ref.result c.as_ref.ensures.value) at (rw c.in-Ok-Some.field-0-is at c.in-Ok-Some.ensures))
    (ap (λ (z : Found). gives z) (ap (λ d. value d) (view-String c.in_ok-text_written-in-Ok-Some.field-0)
    ∙ ap (λ t. value (string t)) c.in_ok-text_written-in-Ok-Some.ensures))

pub returns-in-Err-clause-value : goal.returns-in-Err-clause-value
returns-in-Err-clause-value g c = λ captured.
    yields-propagated (offer_or_text (setting_in g.P.Registered.parts c.args.environment.now) (state_with captured c.args.run.now) c.args.name.now
    (helper_view c.args.view.now) not_offered)
    c.in-Err.e (error_of c.new.result) c.new.ensures
    (λ other. first_fails (rw (changed-seen c.as_ref.result c.as_ref.ensures.value) at (c.in-Err.ensures other)))
