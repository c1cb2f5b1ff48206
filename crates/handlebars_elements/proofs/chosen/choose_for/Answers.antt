use Rattle.std.proofs.Common.{map, option_map, Ok, Err}
use Rattle.std.specs.Prelude.{unwrap_or}
use Rattle.std.specs.Cow.{cow_str_bytes}
use Rattle.serde_json.specs.View.{view}
use Rattle.handlebars_template.specs.TreeView.{call_view}
use Rattle.handlebars_helpers.specs.Callee.{user}
use Rattle.handlebars_helpers.specs.View.{built_in_kind}
use Rattle.handlebars_semantics.specs.Execute.{view_with_bodies}
use Rattle.handlebars_expand.specs.Boxed.{error_of}
use Rattle.handlebars_expand.specs.UserChoice.{user_choice_of}
use Rattle.handlebars_expand.specs.View.{name_alone}
use Rattle.handlebars_values.specs.ChoiceView.{choice_seen}
use Rattle.handlebars_values.specs.View.{setting_in, state_with}
use Rattle.handlebars_elements.proofs.TargetChoices.{asks-for, target-fails, yields-built, yields-callee}
use Rattle.handlebars_elements.proofs.chosen.choose_for.Goals as goal

pub returns-in-Ok-clause-chooses : goal.returns-in-Ok-clause-chooses
returns-in-Ok-clause-chooses g c = λ captured.
    let t = cow_str_bytes c.args.name in
    yields-built (setting_in g.P.Registered.parts c.args.environment.now) (state_with captured c.args.run.now) c.args.block (call_view c.args.helper.now) t choice_seen c.as_str.result.now c.args.target
    (built_in_kind c.in-Ok-BuiltIn.kind) (map view c.in-Ok-BuiltIn.constants.now) (Ok c.in-Ok.choice)
    c.as_str.ensures.value (rw c.in-Ok-BuiltIn.field-0-is at c.in-Ok-BuiltIn.ensures)
    (c.in-Ok.ensures.chooses captured (view_with_bodies c.args.block (call_view c.args.helper.now) (name_alone t))
    (asks-for c.args.block c.args.helper.now (name_alone t) _ c.is_some.ensures c.is_some-in-Ok-BuiltIn.ensures))

pub returns-in-Ok-BuiltIn-clause-chooses : goal.returns-in-Ok-BuiltIn-clause-chooses
returns-in-Ok-BuiltIn-clause-chooses g c = λ captured.
    let t = cow_str_bytes c.args.name in
    yields-built (setting_in g.P.Registered.parts c.args.environment.now) (state_with captured c.args.run.now) c.args.block (call_view c.args.helper.now) t choice_seen c.as_str.result.now c.args.target
    (built_in_kind c.in-Ok-BuiltIn.kind) (map view c.in-Ok-BuiltIn.constants.now) (Err (error_of c.in-Err-choose_built_in.e))
    c.as_str.ensures.value (rw c.in-Ok-BuiltIn.field-0-is at c.in-Ok-BuiltIn.ensures)
    (c.in-Err-choose_built_in.ensures.chooses captured (view_with_bodies c.args.block (call_view c.args.helper.now) (name_alone t))
    (asks-for c.args.block c.args.helper.now (name_alone t) _ c.is_some.ensures c.is_some-in-Ok-BuiltIn.ensures))

pub returns-in-Ok-choose_user_defined-clause-chooses : goal.returns-in-Ok-choose_user_defined-clause-chooses
returns-in-Ok-choose_user_defined-clause-chooses g c = λ captured.
    let t = cow_str_bytes c.args.name in
    yields-callee (setting_in g.P.Registered.parts c.args.environment.now) (state_with captured c.args.run.now) c.args.block (call_view c.args.helper.now) t user_choice_of c.as_str.result.now c.args.target
    (λ name. user (unwrap_or (option_map (λ a. a.now) c.in-Ok-User.asked_by) name)) (map view c.in-Ok-User.constants.now) (Ok c.in-Ok-choose_user_defined.choice)
    c.as_str.ensures.value (rw c.in-Ok-User.field-0-is at c.in-Ok-User.ensures) (c.in-Ok-choose_user_defined.ensures captured)

pub returns-in-Ok-User-clause-chooses : goal.returns-in-Ok-User-clause-chooses
returns-in-Ok-User-clause-chooses g c = λ captured.
    let t = cow_str_bytes c.args.name in
    yields-callee (setting_in g.P.Registered.parts c.args.environment.now) (state_with captured c.args.run.now) c.args.block (call_view c.args.helper.now) t user_choice_of c.as_str.result.now c.args.target
    (λ name. user (unwrap_or (option_map (λ a. a.now) c.in-Ok-User.asked_by) name)) (map view c.in-Ok-User.constants.now) (Err (error_of c.in-Err-choose_user_defined.e))
    c.as_str.ensures.value (rw c.in-Ok-User.field-0-is at c.in-Ok-User.ensures) (c.in-Err-choose_user_defined.ensures captured)

pub returns-clause-chooses : goal.returns-clause-chooses
returns-clause-chooses g c = λ captured.
    target-fails (setting_in g.P.Registered.parts c.args.environment.now) (state_with captured c.args.run.now) c.args.block (call_view c.args.helper.now) (cow_str_bytes c.args.name) c.as_str.result.now c.args.target
    (error_of c.in-Err.e) (error_of c.error_after_arguments.result) c.as_str.ensures.value c.in-Err.ensures
    (c.error_after_arguments.ensures captured)
