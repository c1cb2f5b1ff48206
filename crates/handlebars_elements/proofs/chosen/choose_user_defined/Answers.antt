use Rattle.std.proofs.Common.{map, option_map, Ok, Err}
use Rattle.std.specs.Prelude.{unwrap_or}
use Rattle.std.specs.Cow.{cow_str_bytes}
use Rattle.serde_json.specs.View.{view}
use Rattle.handlebars_template.specs.TreeView.{call_view}
use Rattle.handlebars_helpers.specs.Callee.{user}
use Rattle.handlebars_helpers.specs.View.{helper_view}
use Rattle.handlebars_semantics.specs.Asks.{first_fails}
use Rattle.handlebars_expand.specs.Boxed.{error_of}
use Rattle.handlebars_expand.specs.UserChoice.{user_choice_of}
use Rattle.handlebars_expand.proofs.Propagated.{yields-propagated}
use Rattle.handlebars_expand.proofs.Values.{propagated}
use Rattle.handlebars_values.specs.View.{called_view, setting_in, state_with}
use Rattle.handlebars_elements.specs.Chosen.{HasCalleeChoice}
use Rattle.handlebars_elements.proofs.TargetChoices.{yields-asked}
use Rattle.handlebars_elements.proofs.chosen.choose_user_defined.Goals as goal

pub returns-in_err-call : goal.returns-in_err-call
returns-in_err-call g c = λ captured.
    (propagated _ _ _ _ c.from_residual.ensures.1 (λ other. first_fails (c.in_err-call.ensures captured other)))

pub returns-in-Ok : goal.returns-in-Ok
returns-in-Ok g c = λ captured.
    yields-asked (setting_in g.P.Registered.parts c.args.environment.now) (state_with captured c.args.run.now) c.args.block (call_view c.args.helper.now) (cow_str_bytes c.args.name) user_choice_of (called_view c.in_ok-call.call)
    (called_view c.in_ok-after.field-0) (map view c.args.constants.now) (helper_view c.in_ok-view.view)
    (option_map (λ t. t.now) c.args.asked_by) c.asked_name.result.now (Ok c.in-Ok.choice)
    (c.in_ok-call.ensures captured)
    c.in_ok-after.ensures c.in_ok-view.ensures c.asked_name.ensures (c.in-Ok.ensures captured)

pub returns : goal.returns
returns g c = λ captured.
    let t = cow_str_bytes c.args.name in
    yields-propagated (HasCalleeChoice (setting_in g.P.Registered.parts c.args.environment.now) (state_with captured c.args.run.now) c.args.block (call_view c.args.helper.now) t
    (user (unwrap_or (option_map (λ a. a.now) c.args.asked_by) t)) (map view c.args.constants.now)) c.in-Err.e (error_of c.new.result) c.new.ensures
    (yields-asked (setting_in g.P.Registered.parts c.args.environment.now) (state_with captured c.args.run.now) c.args.block (call_view c.args.helper.now) (cow_str_bytes c.args.name) user_choice_of (called_view c.in_ok-call.call)
    (called_view c.in_ok-after.field-0) (map view c.args.constants.now) (helper_view c.in_ok-view.view)
    (option_map (λ t. t.now) c.args.asked_by) c.asked_name.result.now (Err c.in-Err.e)
    (c.in_ok-call.ensures captured)
    c.in_ok-after.ensures c.in_ok-view.ensures c.asked_name.ensures (c.in-Err.ensures captured))
