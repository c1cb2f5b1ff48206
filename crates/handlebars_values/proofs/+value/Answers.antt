use Rattle.std.proofs.Common.{refl, sym, ap, [], map}
use Rattle.std.specs.Cow.{cow_str_bytes}
use Rattle.serde_json.specs.View.{view}
use Rattle.handlebars_base.specs.Answers.{gives, fails}
use Rattle.handlebars_base.specs.Bytes.{Text}
use Rattle.handlebars_base.specs.PathAndData.{PathAndData}
use Rattle.handlebars_base.specs.RenderRefusals.{refusal_of}
use Rattle.handlebars_scope.specs.Contexts.{data_of}
use Rattle.handlebars_helpers.specs.View.{built_in_kind}
use Rattle.handlebars_values.specs.ChoiceView.{choice_seen}
use Rattle.handlebars_values.specs.ParamView.{argument_view, value_found}
use Rattle.handlebars_values.specs.View.{setting_in, state_with}
use Rattle.handlebars_template.specs.Tree.{args_hash, args_params, call_args, call_binding, call_name}
use Rattle.handlebars_template.specs.TreeView.{call_view, hash_view}
use Rattle.handlebars_template.proofs.Levels.{call_name-view, call_params-view, call_hash-view, element_view-Expression, param_view-Path, param_view-Subexpression}
use Rattle.handlebars_semantics.specs.Asks.{goes_on, first_fails}
use Rattle.handlebars_semantics.specs.Values.{HasName, HaveValues, HashHasValues}
use Rattle.handlebars_expand.specs.Boxed.{answer_of, error_of}
use Rattle.handlebars_expand.proofs.Ordered.{follows-next, inserted-last, map-push}
use Rattle.handlebars_expand.proofs.Values.{hash-end, hash-go, hash-over, params-end, params-go, params-here, params-over, params-past, subexpression_view-out, inner_value-parts, propagated, yields-inner_value, yields-then, written-as}
use Rattle.handlebars_values.specs.declared.dispatch.Dispatched.TheVariants.{BuiltIn, User}
use Rattle.handlebars_values.proofs.Dispatching.{named_alone, value-built, yields-dispatched, yields-undispatched}
use Rattle.handlebars_values.proofs.Pushed.{arguments_seen-inserted}
use Rattle.std.proofs.Common.{◌∙◌, ◌++◌, ◌∷◌, ◌-◌, ◌<◌, ◌≤◌, Some, None, arith, length, subst}
use Rattle.std.specs.Prelude.{slice_get}
use Rattle.serde_json.specs.Data.{Data}
use Rattle.handlebars_base.specs.Scoped.{value}
use Rattle.handlebars_template.specs.TreeView.{param_view}
use Rattle.handlebars_template.specs.declared.template.tree.HelperTemplate.{out-HelperTemplate}
use Rattle.handlebars_helpers.specs.CallView.{plain_value}
use Rattle.handlebars_helpers.specs.Choice.{built_in_choice, kind_log, kind_raw, the_boolean}
use Rattle.handlebars_semantics.specs.Values.{as_written}
use Rattle.handlebars_values.specs.BuiltIn.{kind_by_first, kind_by_truth, kind_by_two, logged, passing}
use Rattle.handlebars_values.specs.Truths.{ShowsTruths}
use Rattle.handlebars_values.specs.View.{arguments_seen}
use Rattle.handlebars_values.proofs.Decisions.{decided-first, decided-truth, decided-two}
use Rattle.handlebars_values.proofs.Evaluated.{chosen, constant-at, first-fails, from-constants, hash-fails, parameter-at, params-begin, params-fail, rest-fails-from, rest_of_two-fails-from, second-fails, value-at, with-first-from, with-two-from}
use Rattle.handlebars_values.proofs.TruthsOf.{adds-nothing, adds-one, adds-shows, plain-values}
use Rattle.handlebars_values.proofs.+value.Goals as goal

-- ---- names and values

pub expand::expand-returns-in-Ok : goal.expand::expand-returns-in-Ok
expand::expand-returns-in-Ok g t c = λ captured.
    goes_on (c.in-Ok.ensures.value captured) (ap (λ (d : PathAndData). gives d)
    (written-as _ _ _ _ _ c.new.ensures c.as_name.ensures c.in-Ok.ensures.constant))

pub expand::expand-returns-in-Err : goal.expand::expand-returns-in-Err
expand::expand-returns-in-Err g t c = λ captured other. first_fails (c.in-Err.ensures.value captured other)

pub expand::expand_as_name-returns-in-Subexpression : goal.expand::expand_as_name-returns-in-Subexpression
expand::expand_as_name-returns-in-Subexpression g t c = λ captured. rw (c.in-Subexpression.is, param_view-Subexpression)
    (c.inner_name.ensures captured)

pub expand::inner_name-returns-in_ok-render-in-Ok : goal.expand::inner_name-returns-in_ok-render-in-Ok
expand::inner_name-returns-in_ok-render-in-Ok g t c = λ captured.
    goes_on (c.in-Ok.ensures.value captured) (ap (λ (n : Text). gives n) c.in_ok-render-in-Ok.ensures)

pub expand::inner_name-returns-in-Err : goal.expand::inner_name-returns-in-Err
expand::inner_name-returns-in-Err g t c = λ captured other. first_fails (c.in-Err.ensures.value captured other)

pub expand::expands-returns-in-Path-clause-value : goal.expand::expands-returns-in-Path-clause-value
expand::expands-returns-in-Path-clause-value g t c = λ captured. rw (c.in-Path.is, param_view-Path) (c.find.ensures.value captured)

pub expand::expands-returns-in-Subexpression-clause-value : goal.expand::expands-returns-in-Subexpression-clause-value
expand::expands-returns-in-Subexpression-clause-value g t c = λ captured. rw (c.in-Subexpression.is, param_view-Subexpression)
    (c.inner_value.ensures.value captured)

pub expand::inner_value-returns-in-Expression-clause-value : goal.expand::inner_value-returns-in-Expression-clause-value
expand::inner_value-returns-in-Expression-clause-value g t c = λ captured.
    rw (subexpression_view-out c.args.inner.now, sym c.deref.ensures, c.in-Expression.is, element_view-Expression)
    (rw c.deref-in-Expression.ensures at (c.call_value.ensures.value captured))

-- ---- calls in parentheses

pub expand::call_value-returns-in_err-name-clause-value : goal.expand::call_value-returns-in_err-name-clause-value
expand::call_value-returns-in_err-name-clause-value g t c = λ captured.
    propagated _ _ _ _ c.from_residual.ensures.1
    (λ other. inner_value-parts _ _ (call_view c.args.helper.now)
    (rw (call_name-view c.args.helper.now) (first_fails (first_fails (c.in_err-name.ensures captured other)))))

pub expand::call_value-returns-in-Ok-BuiltIn-clause-value : goal.expand::call_value-returns-in-Ok-BuiltIn-clause-value
expand::call_value-returns-in-Ok-BuiltIn-clause-value g t c = λ captured.
    let p = setting_in g.P.Registered.parts c.args.environment.now in
    let s = state_with captured c.args.run.now in
    let v = call_view c.args.helper.now in
    let name = cow_str_bytes c.in_ok-name.name in
    yields-inner_value value_found p s v (answer_of c.built_in_value.result)
    (yields-dispatched name (HaveValues p s (args_params (call_args v))) (HashHasValues p s (args_hash (call_args v))) p s (call_binding v)
    (HasName p s (call_name v)) (rw (call_name-view c.args.helper.now) (c.in_ok-name.ensures captured)) value_found
    (BuiltIn c.in-Ok-BuiltIn.kind c.in-Ok-BuiltIn.constants) (answer_of c.built_in_value.result)
    (rw c.as_str.ensures.value at (rw c.in-Ok-BuiltIn.field-0-is at (c.in-Ok-BuiltIn.ensures captured)))
    (c.built_in_value.ensures.value captured name))

pub expand::call_value-returns-in-Ok-User-clause-value : goal.expand::call_value-returns-in-Ok-User-clause-value
expand::call_value-returns-in-Ok-User-clause-value g t c = λ captured.
    let p = setting_in g.P.Registered.parts c.args.environment.now in
    let s = state_with captured c.args.run.now in
    let v = call_view c.args.helper.now in
    let name = cow_str_bytes c.in_ok-name.name in
    yields-inner_value value_found p s v (answer_of c.user_defined_value.result)
    (yields-dispatched name (HaveValues p s (args_params (call_args v))) (HashHasValues p s (args_hash (call_args v))) p s (call_binding v)
    (HasName p s (call_name v)) (rw (call_name-view c.args.helper.now) (c.in_ok-name.ensures captured)) value_found
    (User c.in-Ok-User.asked_by c.in-Ok-User.constants) (answer_of c.user_defined_value.result)
    (rw c.as_str.ensures.value at (rw c.in-Ok-User.field-0-is at (c.in-Ok-User.ensures captured)))
    (c.user_defined_value.ensures.value captured))

pub expand::call_value-returns-clause-value : goal.expand::call_value-returns-clause-value
expand::call_value-returns-clause-value g t c = λ captured.
    let p = setting_in g.P.Registered.parts c.args.environment.now in
    let s = state_with captured c.args.run.now in
    let v = call_view c.args.helper.now in
    let name = cow_str_bytes c.in_ok-name.name in
    yields-inner_value value_found p s v (answer_of c.fail_after_arguments.result)
    (yields-undispatched name (HaveValues p s (args_params (call_args v))) (HashHasValues p s (args_hash (call_args v))) p s (call_binding v)
    (HasName p s (call_name v)) (rw (call_name-view c.args.helper.now) (c.in_ok-name.ensures captured)) value_found
    (error_of c.in-Err.e) (answer_of c.fail_after_arguments.result)
    (rw c.as_str.ensures.value at (c.in-Err.ensures captured))
    (c.fail_after_arguments.ensures.value captured))

pub expand::call_value-returns-in-Ok-BuiltIn-clause-given : goal.expand::call_value-returns-in-Ok-BuiltIn-clause-given
expand::call_value-returns-in-Ok-BuiltIn-clause-given g t c =
    c.built_in_value.ensures.given (data_of c.args.environment.now.innermost.given.now)

pub expand::call_value-returns-in-Ok-User-clause-given : goal.expand::call_value-returns-in-Ok-User-clause-given
expand::call_value-returns-in-Ok-User-clause-given g t c =
    c.user_defined_value.ensures.given (data_of c.args.environment.now.innermost.given.now)

pub expand::call_value-returns-clause-given : goal.expand::call_value-returns-clause-given
expand::call_value-returns-clause-given g t c =
    c.fail_after_arguments.ensures.given (data_of c.args.environment.now.innermost.given.now)

pub expand::built_in_value-returns-in-Ok-clause-value : goal.expand::built_in_value-returns-in-Ok-clause-value
expand::built_in_value-returns-in-Ok-clause-value g t c = λ captured name.
    let p = setting_in g.P.Registered.parts c.args.environment.now in
    let s = state_with captured c.args.run.now in
    let v = call_view c.args.helper.now in
    let kind = built_in_kind c.args.kind in
    let constants = map view c.args.constants.now in
    rw c.chosen_value.ensures.value
    (value-built p s kind constants (call_args v) (call_binding v) name (gives (choice_seen c.in-Ok.choice))
    (c.in-Ok.ensures.chooses captured (named_alone p s kind constants (call_args v) (call_binding v) name) record { body = refl; inverse = refl }))

pub expand::built_in_value-returns-in-Err-clause-value : goal.expand::built_in_value-returns-in-Err-clause-value
expand::built_in_value-returns-in-Err-clause-value g t c = λ captured name other.
    let p = setting_in g.P.Registered.parts c.args.environment.now in
    let s = state_with captured c.args.run.now in
    let v = call_view c.args.helper.now in
    let kind = built_in_kind c.args.kind in
    let constants = map view c.args.constants.now in
    value-built p s kind constants (call_args v) (call_binding v) name (fails (refusal_of (error_of c.in-Err.e)))
    (c.in-Err.ensures.chooses captured (named_alone p s kind constants (call_args v) (call_binding v) name) record { body = refl; inverse = refl } other)

pub expand::user_defined_value-returns-in_err-call-clause-value : goal.expand::user_defined_value-returns-in_err-call-clause-value
expand::user_defined_value-returns-in_err-call-clause-value g t c = λ captured.
    propagated _ _ _ _ c.from_residual.ensures.1 (λ other. first_fails (c.in_err-call.ensures captured other))

pub expand::user_defined_value-returns-clause-value : goal.expand::user_defined_value-returns-clause-value
expand::user_defined_value-returns-clause-value g t c = λ captured.
    yields-then value_found _ _ (answer_of c.user_called_value.result) (c.in_ok-call.ensures captured) (c.user_called_value.ensures.value captured)

pub expand::fail_after_arguments-returns-in-Ok-clause-value : goal.expand::fail_after_arguments-returns-in-Ok-clause-value
expand::fail_after_arguments-returns-in-Ok-clause-value g t c = λ captured other.
    goes_on (c.in-Ok.ensures captured) refl

pub expand::fail_after_arguments-returns-in-Err-clause-value : goal.expand::fail_after_arguments-returns-in-Err-clause-value
expand::fail_after_arguments-returns-in-Err-clause-value g t c = λ captured other.
    first_fails (c.in-Err.ensures captured other)

-- ---- parameters and hash arguments

pub expand::called-returns-in_err-params : goal.expand::called-returns-in_err-params
expand::called-returns-in_err-params g t c = λ captured.
    rw (call_params-view c.args.helper.now, call_hash-view c.args.helper.now)
    (propagated _ _ _ _ c.from_residual.ensures.1 (λ other. goes_on refl (first_fails (c.in_err-params.ensures captured other))))

pub expand::called-returns-in_err-hash : goal.expand::called-returns-in_err-hash
expand::called-returns-in_err-hash g t c = λ captured.
    rw (call_params-view c.args.helper.now, call_hash-view c.args.helper.now)
    (propagated _ _ _ _ c.from_residual-in_err-hash.ensures.1
    (λ other. goes_on refl (goes_on (c.in_ok-params.ensures captured) (first_fails (c.in_err-hash.ensures captured other)))))

pub expand::called-returns : goal.expand::called-returns
expand::called-returns g t c = λ captured.
    rw (call_params-view c.args.helper.now, call_hash-view c.args.helper.now)
    (goes_on refl (goes_on (c.in_ok-params.ensures captured) (goes_on (c.in_ok-hash.ensures captured) refl)))

pub expand::hash_values-returns-in_err-expand : goal.expand::hash_values-returns-in_err-expand
expand::hash_values-returns-in_err-expand g t c = λ captured. propagated _ _ _ _
    c.from_residual.ensures.1
    (λ other. hash-over _ _ _ (ap hash_view c.in-Some.ensures.steps) (c.loop-key.invariant.left captured)
    (c.in_err-expand.ensures captured other))

pub expand::hash_values-loop-key-preserved : goal.expand::hash_values-loop-key-preserved
expand::hash_values-loop-key-preserved g t c =
    let last = inserted-last c.in-Some.key.now c.in-Some.parameter.now c.as_str.result c.in_ok-expand.field-0
    c.in-Some.ensures.steps
    c.as_str.ensures.value c.iter-key-items.ensures.ordered c.loop-key.invariant.follows in
    record {
      follows = follows-next c.in-Some.key.now c.in-Some.parameter.now c.as_str.result c.in_ok-expand.field-0
          c.in-Some.ensures.steps
          c.as_str.ensures.value c.iter-key-items.ensures.ordered c.loop-key.invariant.follows c.in_ok-put.ensures;
      left = λ captured. rw (arguments_seen-inserted _ _ c.as_str.result c.in_ok-expand.field-0 _
          c.in_ok-put.ensures last c.as_str.ensures.value)
          (hash-go _ _ _ (ap hash_view c.in-Some.ensures.steps) (c.loop-key.invariant.left captured) _
          (c.in_ok-expand.ensures captured));
    }

pub expand::hash_values-returns : goal.expand::hash_values-returns
expand::hash_values-returns g t c = λ captured. hash-end _ _ _ (ap hash_view c.in-None.ensures.steps.0) (c.loop-key.invariant.left captured)

pub expand::params_values-returns-in_err-expand : goal.expand::params_values-returns-in_err-expand
expand::params_values-returns-in_err-expand g t c = λ captured. rw (sym c.deref-parameter-items.ensures.value)
    (propagated _ _ _ _ c.from_residual-in_err-expand.ensures.1
    (λ other. params-over _ _ _ (params-here c.deref-parameter-items.result.now c.loop-parameter.parameter-index
    c.parameter-item.result c.loop-parameter-test.true c.parameter-item.is)
    (c.loop-parameter.invariant captured) (c.in_err-expand.ensures captured other)))

pub expand::params_values-loop-parameter-preserved : goal.expand::params_values-loop-parameter-preserved
expand::params_values-loop-parameter-preserved g t c = λ captured. rw (map-push argument_view _ _ c.in_ok-expand.field-0
    c.in_ok-push.ensures.items)
    (params-go _ _ _ (params-here c.deref-parameter-items.result.now c.loop-parameter.parameter-index
    c.parameter-item.result c.loop-parameter-test.true c.parameter-item.is)
    (c.loop-parameter.invariant captured) _ (c.in_ok-expand.ensures captured))

pub expand::params_values-returns : goal.expand::params_values-returns
expand::params_values-returns g t c = λ captured. rw (sym c.deref-parameter-items.ensures.value)
    (params-end _ _ _ (params-past c.deref-parameter-items.result.now c.loop-parameter.parameter-index
    c.loop-parameter-test.false)
    (c.loop-parameter.invariant captured))

-- ---- what built-in helpers are called with

pub evaluate::value_at-returns-in-Some-clause-value : goal.evaluate::value_at-returns-in-Some-clause-value
evaluate::value_at-returns-in-Some-clause-value g t c = λ captured.
    let constant = view c.in-Some.constant.now in (
      Some (plain_value constant),
      value-at (setting_in g.P.Registered.parts c.args.environment.now) (state_with captured c.args.run.now)
          (map view c.args.constants.now) c.args.params.now.items c.args.index (Some constant) _ _
          (constant-at c.args.constants.now c.args.index (Some c.in-Some.constant) c.in-Some.ensures.lookup) refl refl,
      ap (λ (d : Data). Some (value d)) (sym c.in_ok-clone.ensures.cases),
    )

pub evaluate::value_at-returns-in-Ok-clause-value : goal.evaluate::value_at-returns-in-Ok-clause-value
evaluate::value_at-returns-in-Ok-clause-value g t c = λ captured.
    let q = c.in-Some-get.parameter.now in
    let there = ap (λ z. slice_get z (c.args.index - length (map view c.args.constants.now))) (sym c.deref.ensures.value)
    ∙ parameter-at c.deref.result.now c.args.constants.now c.args.index (Some c.in-Some-get.parameter) c.in-Some-get.ensures.lookup refl refl in (
      Some (as_written (param_view q) (value_found c.in-Ok.value)),
      value-at (setting_in g.P.Registered.parts c.args.environment.now)
          (state_with captured c.args.run.now) (map view c.args.constants.now) c.args.params.now.items c.args.index None (Some q) _
          (constant-at c.args.constants.now c.args.index None c.in_default.ensures.lookup) there
          (goes_on (goes_on (c.in-Ok.ensures.value captured) refl) refl),
      refl,
    )

pub evaluate::value_at-returns-in-Err-clause-value : goal.evaluate::value_at-returns-in-Err-clause-value
evaluate::value_at-returns-in-Err-clause-value g t c = λ captured other.
    let q = c.in-Some-get.parameter.now in
    let there = ap (λ z. slice_get z (c.args.index - length (map view c.args.constants.now))) (sym c.deref.ensures.value)
    ∙ parameter-at c.deref.result.now c.args.constants.now c.args.index (Some c.in-Some-get.parameter) c.in-Some-get.ensures.lookup refl refl in
    value-at (setting_in g.P.Registered.parts c.args.environment.now)
    (state_with captured c.args.run.now) (map view c.args.constants.now) c.args.params.now.items c.args.index None (Some q) _
    (constant-at c.args.constants.now c.args.index None c.in_default.ensures.lookup) there
    (first_fails (first_fails (c.in-Err.ensures.value captured other)))

pub evaluate::value_at-returns-in-None-clause-value : goal.evaluate::value_at-returns-in-None-clause-value
evaluate::value_at-returns-in-None-clause-value g t c = λ captured.
    let there = ap (λ z. slice_get z (c.args.index - length (map view c.args.constants.now))) (sym c.deref.ensures.value)
    ∙ parameter-at c.deref.result.now c.args.constants.now c.args.index None c.in-None.ensures.lookup refl refl in (
      None,
      value-at (setting_in g.P.Registered.parts c.args.environment.now)
          (state_with captured c.args.run.now) (map view c.args.constants.now) c.args.params.now.items c.args.index None None _
          (constant-at c.args.constants.now c.args.index None c.in_default.ensures.lookup) there refl,
      refl,
    )

pub evaluate::evaluate_rest-loop-position-init : goal.evaluate::evaluate_rest-loop-position-init
evaluate::evaluate_rest-loop-position-init g t c = λ captured. ([], params-begin _ _ _)

pub evaluate::evaluate_rest-loop-position-preserved : goal.evaluate::evaluate_rest-loop-position-preserved
evaluate::evaluate_rest-loop-position-preserved g t c = λ captured.
    let before = c.loop-position.invariant captured in
    let q = c.index.result.now in
    let d = as_written (param_view q) (value_found c.in_ok-expands.field-0) in
    let within : c.loop-position.position < length c.args.params.now.items = omega (arith, c.loop-position-test.true, c.len-position-end.ensures, c.args.params.now.ok.0) in (
      before.0 ++ d ∷ [],
      params-go _ _ _ (params-here c.args.params.now.items c.loop-position.position q within c.index.ensures) before.1 d
          (goes_on (c.in_ok-expands.ensures.value captured) refl),
    )

pub evaluate::evaluate_rest-returns-in_err-expands : goal.evaluate::evaluate_rest-returns-in_err-expands
evaluate::evaluate_rest-returns-in_err-expands g t c = λ captured.
    let within : c.loop-position.position < length c.args.params.now.items = omega (arith, c.loop-position-test.true, c.len-position-end.ensures, c.args.params.now.ok.0) in
    propagated _ _ _ _ c.from_residual.ensures.1
    (λ other. params-over _ _ _ (params-here c.args.params.now.items c.loop-position.position c.index.result.now within c.index.ensures)
    (c.loop-position.invariant captured).1 (first_fails (c.in_err-expands.ensures.value captured other)))

pub evaluate::evaluate_rest-returns : goal.evaluate::evaluate_rest-returns
evaluate::evaluate_rest-returns g t c = λ captured.
    let before = c.loop-position.invariant captured in
    let over : length c.args.params.now.items ≤ c.loop-position.position = omega (arith, c.loop-position-test.false, c.len-position-end.ensures, c.args.params.now.ok.0) in
    (before.0, params-end _ _ _ (params-past c.args.params.now.items c.loop-position.position over) before.1, tt)

pub evaluate::truths-loop-parameter-init : goal.evaluate::truths-loop-parameter-init
evaluate::truths-loop-parameter-init g t c = λ captured. ([], params-begin _ _ _, adds-nothing c.args.so_far)

pub evaluate::truths-loop-parameter-preserved : goal.evaluate::truths-loop-parameter-preserved
evaluate::truths-loop-parameter-preserved g t c = λ captured.
    let before = c.loop-parameter.invariant captured in
    let d = as_written (param_view c.parameter-item.result) (value_found c.in_ok-value.value) in (
      before.0 ++ d ∷ [],
      params-go _ _ _ (params-here c.deref-parameter-items.result.now c.loop-parameter.parameter-index
          c.parameter-item.result c.loop-parameter-test.true c.parameter-item.is) before.1 d
          (goes_on (c.in_ok-value.ensures.value captured) refl),
      adds-one before.0 d c.truth.result before.2 c.and-all.ensures.all c.and-all.ensures.some c.truth.ensures,
    )

pub evaluate::truths-returns-in_err-value : goal.evaluate::truths-returns-in_err-value
evaluate::truths-returns-in_err-value g t c = λ captured.
    rw (sym c.deref-parameter-items.ensures.value)
    (propagated _ _ _ _ c.from_residual.ensures.1
    (λ other. params-over _ _ _ (params-here c.deref-parameter-items.result.now c.loop-parameter.parameter-index
    c.parameter-item.result c.loop-parameter-test.true c.parameter-item.is)
    (c.loop-parameter.invariant captured).1 (first_fails (c.in_err-value.ensures.value captured other))))

pub evaluate::truths-returns : goal.evaluate::truths-returns
evaluate::truths-returns g t c = λ captured.
    rw (sym c.deref-parameter-items.ensures.value) (
      (c.loop-parameter.invariant captured).0,
      params-end _ _ _ (params-past c.deref-parameter-items.result.now c.loop-parameter.parameter-index
          c.loop-parameter-test.false) (c.loop-parameter.invariant captured).1,
      (c.loop-parameter.invariant captured).2,
    )

pub evaluate::zero_in-returns-in_err-hash : goal.evaluate::zero_in-returns-in_err-hash
evaluate::zero_in-returns-in_err-hash g t c = λ captured.
    propagated _ _ _ _ c.from_residual.ensures.1 (λ other. c.in_err-hash.ensures captured other)

pub evaluate::zero_in-returns : goal.evaluate::zero_in-returns
evaluate::zero_in-returns g t c = λ captured.
    (arguments_seen c.in_ok-hash.hash.entries, c.in_ok-hash.ensures captured, c.includes_zero.ensures)

-- ---- what built-in helpers choose by the first value

pub evaluate::choose_by_first-returns-in_err-first-clause-chooses : goal.evaluate::choose_by_first-returns-in_err-first-clause-chooses
evaluate::choose_by_first-returns-in_err-first-clause-chooses g t c = λ captured h asks.
    let p = setting_in g.P.Registered.parts c.args.environment.now in
    let s = state_with captured c.args.run.now in
    let cs = map view c.args.asked.constants.now in
    rw (call_params-view c.args.helper.now, call_hash-view c.args.helper.now)
    (propagated _ _ _ _ c.from_residual.ensures.1 (λ other. params-fail p s cs _ _ (kind_by_first c.args.by) h _
    (first-fails p s cs _ _ (c.in_err-first.ensures.value captured other))))

pub evaluate::choose_by_first-returns-in_err-evaluate_from-clause-chooses : goal.evaluate::choose_by_first-returns-in_err-evaluate_from-clause-chooses
evaluate::choose_by_first-returns-in_err-evaluate_from-clause-chooses g t c = λ captured h asks.
    let p = setting_in g.P.Registered.parts c.args.environment.now in
    let s = state_with captured c.args.run.now in
    let cs = map view c.args.asked.constants.now in
    let from = from-constants 1 c.args.asked.constants.now c.saturating_sub.ensures refl in
    rw (call_params-view c.args.helper.now, call_hash-view c.args.helper.now)
    (propagated _ _ _ _ c.from_residual-in_err-evaluate_from.ensures.1 (λ other. params-fail p s cs _ _ (kind_by_first c.args.by) h _
    (rest-fails-from p s cs _ _ _ _ from (c.in_ok-first.ensures.value captured).1 (c.in_err-evaluate_from.ensures captured other))))

pub evaluate::choose_by_first-returns-in_err-zero-clause-chooses : goal.evaluate::choose_by_first-returns-in_err-zero-clause-chooses
evaluate::choose_by_first-returns-in_err-zero-clause-chooses g t c = λ captured h asks.
    let p = setting_in g.P.Registered.parts c.args.environment.now in
    let s = state_with captured c.args.run.now in
    let cs = map view c.args.asked.constants.now in
    let from = from-constants 1 c.args.asked.constants.now c.saturating_sub.ensures refl in
    let all = with-first-from p s cs (out-HelperTemplate c.args.helper.now).params.items (c.in_ok-first.ensures.value captured).0 _
    (c.in_ok-evaluate_from.ensures captured).0 from (c.in_ok-first.ensures.value captured).1 (c.in_ok-evaluate_from.ensures captured).1 in
    rw (call_params-view c.args.helper.now, call_hash-view c.args.helper.now)
    (propagated _ _ _ _ c.from_residual-in_err-zero.ensures.1 (λ other. hash-fails p s cs _ _ (kind_by_first c.args.by) h _ _
    all.have (c.in_err-zero.ensures captured other)))

pub evaluate::choose_by_first-returns-clause-chooses : goal.evaluate::choose_by_first-returns-clause-chooses
evaluate::choose_by_first-returns-clause-chooses g t c = λ captured h asks.
    let p = setting_in g.P.Registered.parts c.args.environment.now in
    let s = state_with captured c.args.run.now in
    let cs = map view c.args.asked.constants.now in
    let kind = kind_by_first c.args.by in
    let from = from-constants 1 c.args.asked.constants.now c.saturating_sub.ensures refl in
    let first = c.in_ok-first.ensures.value captured in
    let zero = c.in_ok-zero.ensures captured in
    let rest = c.in_ok-evaluate_from.ensures captured in
    let all = with-first-from p s cs (out-HelperTemplate c.args.helper.now).params.items first.0 _ rest.0 from first.1 rest.1 in
    let values = map plain_value cs ++ all.values in
    rw (call_params-view c.args.helper.now, call_hash-view c.args.helper.now)
    (chosen p s cs _ _ kind h choice_seen (answer_of c.decide_by_first.result) all.values zero.0 _ all.have zero.1
    (ap (λ b. built_in_choice b kind (passing h (values, zero.0))) (sym c.strict.ensures)
    ∙ decided-first c.strict.result c.args.asked h asks c.args.by values zero.0 all.first (all.written ∙ sym c.first_parameter-written.ensures)
    first.2 zero.2)
    c.decide_by_first.ensures.decides)

pub evaluate::choose_by_first-returns-clause-given : goal.evaluate::choose_by_first-returns-clause-given
evaluate::choose_by_first-returns-clause-given g t c = c.decide_by_first.ensures.given _ c.in_ok-first.ensures.given

-- ---- what built-in helpers choose by two values

pub evaluate::choose_by_two-returns-in_err-first-clause-chooses : goal.evaluate::choose_by_two-returns-in_err-first-clause-chooses
evaluate::choose_by_two-returns-in_err-first-clause-chooses g t c = λ captured h.
    let p = setting_in g.P.Registered.parts c.args.environment.now in
    let s = state_with captured c.args.run.now in
    let cs = map view c.args.asked.constants.now in
    rw (call_params-view c.args.helper.now, call_hash-view c.args.helper.now)
    (propagated _ _ _ _ c.from_residual.ensures.1 (λ other. params-fail p s cs _ _ (kind_by_two c.args.by) h _
    (first-fails p s cs _ _ (c.in_err-first.ensures.value captured other))))

pub evaluate::choose_by_two-returns-in_err-second-clause-chooses : goal.evaluate::choose_by_two-returns-in_err-second-clause-chooses
evaluate::choose_by_two-returns-in_err-second-clause-chooses g t c = λ captured h.
    let p = setting_in g.P.Registered.parts c.args.environment.now in
    let s = state_with captured c.args.run.now in
    let cs = map view c.args.asked.constants.now in
    rw (call_params-view c.args.helper.now, call_hash-view c.args.helper.now)
    (propagated _ _ _ _ c.from_residual-in_err-second.ensures.1 (λ other. params-fail p s cs _ _ (kind_by_two c.args.by) h _
    (second-fails p s cs _ _ _ (c.in_ok-first.ensures.value captured).1 (c.in_err-second.ensures.value captured other))))

pub evaluate::choose_by_two-returns-in_err-evaluate_from-clause-chooses : goal.evaluate::choose_by_two-returns-in_err-evaluate_from-clause-chooses
evaluate::choose_by_two-returns-in_err-evaluate_from-clause-chooses g t c = λ captured h.
    let p = setting_in g.P.Registered.parts c.args.environment.now in
    let s = state_with captured c.args.run.now in
    let cs = map view c.args.asked.constants.now in
    let from = from-constants 2 c.args.asked.constants.now c.saturating_sub.ensures refl in
    rw (call_params-view c.args.helper.now, call_hash-view c.args.helper.now)
    (propagated _ _ _ _ c.from_residual-in_err-evaluate_from.ensures.1 (λ other. params-fail p s cs _ _ (kind_by_two c.args.by) h _
    (rest_of_two-fails-from p s cs _ _ _ _ _ from (c.in_ok-first.ensures.value captured).1 (c.in_ok-second.ensures.value captured).1
    (c.in_err-evaluate_from.ensures captured other))))

pub evaluate::choose_by_two-returns-in_err-zero_by-clause-chooses : goal.evaluate::choose_by_two-returns-in_err-zero_by-clause-chooses
evaluate::choose_by_two-returns-in_err-zero_by-clause-chooses g t c = λ captured h.
    let p = setting_in g.P.Registered.parts c.args.environment.now in
    let s = state_with captured c.args.run.now in
    let cs = map view c.args.asked.constants.now in
    let from = from-constants 2 c.args.asked.constants.now c.saturating_sub.ensures refl in
    let first = c.in_ok-first.ensures.value captured in
    let second = c.in_ok-second.ensures.value captured in
    let rest = c.in_ok-evaluate_from.ensures captured in
    let all = with-two-from p s cs (out-HelperTemplate c.args.helper.now).params.items first.0 second.0 _ rest.0 from first.1 second.1 rest.1 in
    rw (call_params-view c.args.helper.now, call_hash-view c.args.helper.now)
    (propagated _ _ _ _ c.from_residual-in_err-zero_by.ensures.1 (λ other. hash-fails p s cs _ _ (kind_by_two c.args.by) h _ _
    all.have (c.in_err-zero_by.ensures captured other)))

pub evaluate::choose_by_two-returns-clause-chooses : goal.evaluate::choose_by_two-returns-clause-chooses
evaluate::choose_by_two-returns-clause-chooses g t c = λ captured h.
    let p = setting_in g.P.Registered.parts c.args.environment.now in
    let s = state_with captured c.args.run.now in
    let cs = map view c.args.asked.constants.now in
    let kind = kind_by_two c.args.by in
    let from = from-constants 2 c.args.asked.constants.now c.saturating_sub.ensures refl in
    let first = c.in_ok-first.ensures.value captured in
    let second = c.in_ok-second.ensures.value captured in
    let hash = c.in_ok-zero_by.ensures captured in
    let rest = c.in_ok-evaluate_from.ensures captured in
    let all = with-two-from p s cs (out-HelperTemplate c.args.helper.now).params.items first.0 second.0 _ rest.0 from first.1 second.1 rest.1 in
    let values = map plain_value cs ++ all.values in
    rw (call_params-view c.args.helper.now, call_hash-view c.args.helper.now)
    (chosen p s cs _ _ kind h choice_seen (answer_of c.decide_by_two.result) all.values hash.0 _ all.have hash.1
    (ap (λ b. built_in_choice b kind (passing h (values, hash.0))) (sym c.strict.ensures)
    ∙ decided-two c.strict.result h c.args.by values hash.0 all.first all.second first.2 second.2)
    c.decide_by_two.ensures.decides)

pub evaluate::choose_by_two-returns-clause-given : goal.evaluate::choose_by_two-returns-clause-given
evaluate::choose_by_two-returns-clause-given g t c = c.decide_by_two.ensures.given _

-- ---- what built-in helpers choose by all values, or by none

pub evaluate::choose_by_truth-returns-in_err-truths-clause-chooses : goal.evaluate::choose_by_truth-returns-in_err-truths-clause-chooses
evaluate::choose_by_truth-returns-in_err-truths-clause-chooses g t c = λ captured h.
    let p = setting_in g.P.Registered.parts c.args.environment.now in
    let s = state_with captured c.args.run.now in
    rw (call_params-view c.args.helper.now, call_hash-view c.args.helper.now)
    (propagated _ _ _ _ c.from_residual.ensures.1 (λ other. params-fail p s (map view c.args.asked.constants.now) _ _ (kind_by_truth c.args.all) h _
    (c.in_err-truths.ensures captured other)))

pub evaluate::choose_by_truth-returns-in_err-zero_by-clause-chooses : goal.evaluate::choose_by_truth-returns-in_err-zero_by-clause-chooses
evaluate::choose_by_truth-returns-in_err-zero_by-clause-chooses g t c = λ captured h.
    let p = setting_in g.P.Registered.parts c.args.environment.now in
    let s = state_with captured c.args.run.now in
    rw (call_params-view c.args.helper.now, call_hash-view c.args.helper.now)
    (propagated _ _ _ _ c.from_residual-in_err-zero_by.ensures.1 (λ other. hash-fails p s (map view c.args.asked.constants.now) _ _ (kind_by_truth c.args.all) h _ _
    (c.in_ok-truths.ensures captured).1 (c.in_err-zero_by.ensures captured other)))

pub evaluate::choose_by_truth-returns-clause-chooses : goal.evaluate::choose_by_truth-returns-clause-chooses
evaluate::choose_by_truth-returns-clause-chooses g t c = λ captured h.
    let p = setting_in g.P.Registered.parts c.args.environment.now in
    let constants = c.args.asked.constants.now in
    let values = c.in_ok-truths.ensures captured in
    let hash = c.in_ok-zero_by.ensures captured in
    let all = map plain_value (map view constants) ++ values.0 in
    let shown = adds-shows (map plain_value (map view constants)) values.0
    (subst (λ z. ShowsTruths z c.of.result) (plain-values constants) c.of.ensures) values.2 in
    rw (call_params-view c.args.helper.now, call_hash-view c.args.helper.now)
    (goes_on (goes_on values.1 (goes_on hash.1 refl))
    (ap (λ b. gives (the_boolean b)) (c.holds.ensures all shown) ∙ sym (decided-truth p.parts.strict h c.args.all all hash.0)))

pub evaluate::choose_body-returns-in_err-evaluate_from-clause-chooses : goal.evaluate::choose_body-returns-in_err-evaluate_from-clause-chooses
evaluate::choose_body-returns-in_err-evaluate_from-clause-chooses g t c = λ captured h.
    let p = setting_in g.P.Registered.parts c.args.environment.now in
    let s = state_with captured c.args.run.now in
    rw (call_params-view c.args.helper.now, call_hash-view c.args.helper.now)
    (propagated _ _ _ _ c.from_residual.ensures.1 (λ other. params-fail p s (map view c.args.asked.constants.now) _ _ kind_raw h _
    (c.in_err-evaluate_from.ensures captured other)))

pub evaluate::choose_body-returns-in_err-zero_by-clause-chooses : goal.evaluate::choose_body-returns-in_err-zero_by-clause-chooses
evaluate::choose_body-returns-in_err-zero_by-clause-chooses g t c = λ captured h.
    let p = setting_in g.P.Registered.parts c.args.environment.now in
    let s = state_with captured c.args.run.now in
    rw (call_params-view c.args.helper.now, call_hash-view c.args.helper.now)
    (propagated _ _ _ _ c.from_residual-in_err-zero_by.ensures.1 (λ other. hash-fails p s (map view c.args.asked.constants.now) _ _ kind_raw h _ _
    (c.in_ok-evaluate_from.ensures captured).1 (c.in_err-zero_by.ensures captured other)))

pub evaluate::choose_body-returns-clause-chooses : goal.evaluate::choose_body-returns-clause-chooses
evaluate::choose_body-returns-clause-chooses g t c = λ captured h.
    rw (call_params-view c.args.helper.now, call_hash-view c.args.helper.now)
    (goes_on (goes_on (c.in_ok-evaluate_from.ensures captured).1 (goes_on (c.in_ok-zero_by.ensures captured).1 refl)) refl)

pub evaluate::choose_line-returns-in_err-params-clause-chooses : goal.evaluate::choose_line-returns-in_err-params-clause-chooses
evaluate::choose_line-returns-in_err-params-clause-chooses g t c = λ captured h.
    let p = setting_in g.P.Registered.parts c.args.environment.now in
    let s = state_with captured c.args.run.now in
    rw (call_params-view c.args.helper.now, call_hash-view c.args.helper.now)
    (propagated _ _ _ _ c.from_residual.ensures.1 (λ other. params-fail p s (map view c.args.asked.constants.now) _ _ kind_log h _
    (c.in_err-params.ensures captured other)))

pub evaluate::choose_line-returns-in_err-hash-clause-chooses : goal.evaluate::choose_line-returns-in_err-hash-clause-chooses
evaluate::choose_line-returns-in_err-hash-clause-chooses g t c = λ captured h.
    let p = setting_in g.P.Registered.parts c.args.environment.now in
    let s = state_with captured c.args.run.now in
    rw (call_params-view c.args.helper.now, call_hash-view c.args.helper.now)
    (propagated _ _ _ _ c.from_residual-in_err-hash.ensures.1 (λ other. hash-fails p s (map view c.args.asked.constants.now) _ _ kind_log h _ _
    (c.in_ok-params.ensures captured) (c.in_err-hash.ensures captured other)))

pub evaluate::choose_line-returns-clause-chooses : goal.evaluate::choose_line-returns-clause-chooses
evaluate::choose_line-returns-clause-chooses g t c = λ captured h.
    let p = setting_in g.P.Registered.parts c.args.environment.now in
    let s = state_with captured c.args.run.now in
    let constants = c.args.asked.constants.now in
    let params = c.in_ok-params.params.items in
    let hash = arguments_seen c.in_ok-hash.hash.entries in
    rw (call_params-view c.args.helper.now, call_hash-view c.args.helper.now)
    (chosen p s (map view constants) _ _ kind_log h choice_seen (answer_of c.decide_line.result) (map argument_view params) hash _
    (c.in_ok-params.ensures captured) (c.in_ok-hash.ensures captured)
    (ap (λ z. logged (z ++ map argument_view params) hash) (sym (plain-values constants))
    ∙ ap (λ z. logged (map (λ v. plain_value (view v)) constants ++ map argument_view z) hash) (sym c.as_slice.ensures.value))
    c.decide_line.ensures.decides)

-- ---- what each built-in helper chooses

pub built_in::choose_built_in-returns-in-If-clause-chooses : goal.built_in::choose_built_in-returns-in-If-clause-chooses
built_in::choose_built_in-returns-in-If-clause-chooses g t c = λ captured h asks. rw c.in-If.is (c.choose_by_first.ensures.chooses captured h asks)

pub built_in::choose_built_in-returns-in-Unless-clause-chooses : goal.built_in::choose_built_in-returns-in-Unless-clause-chooses
built_in::choose_built_in-returns-in-Unless-clause-chooses g t c = λ captured h asks. rw c.in-Unless.is (c.choose_by_first-in-Unless.ensures.chooses captured h asks)

pub built_in::choose_built_in-returns-in-Each-clause-chooses : goal.built_in::choose_built_in-returns-in-Each-clause-chooses
built_in::choose_built_in-returns-in-Each-clause-chooses g t c = λ captured h asks. rw c.in-Each.is (c.choose_by_first-in-Each.ensures.chooses captured h asks)

pub built_in::choose_built_in-returns-in-With-clause-chooses : goal.built_in::choose_built_in-returns-in-With-clause-chooses
built_in::choose_built_in-returns-in-With-clause-chooses g t c = λ captured h asks. rw c.in-With.is (c.choose_by_first-in-With.ensures.chooses captured h asks)

pub built_in::choose_other-returns-in-If-clause-chooses : goal.built_in::choose_other-returns-in-If-clause-chooses
built_in::choose_other-returns-in-If-clause-chooses g t c = λ captured h asks. rw c.in-If.is (c.choose_by_first.ensures.chooses captured h asks)

pub built_in::choose_other-returns-in-Unless-clause-chooses : goal.built_in::choose_other-returns-in-Unless-clause-chooses
built_in::choose_other-returns-in-Unless-clause-chooses g t c = λ captured h asks. rw c.in-Unless.is (c.choose_by_first-in-Unless.ensures.chooses captured h asks)

pub built_in::choose_other-returns-in-Each-clause-chooses : goal.built_in::choose_other-returns-in-Each-clause-chooses
built_in::choose_other-returns-in-Each-clause-chooses g t c = λ captured h asks. rw c.in-Each.is (c.choose_by_first-in-Each.ensures.chooses captured h asks)

pub built_in::choose_other-returns-in-With-clause-chooses : goal.built_in::choose_other-returns-in-With-clause-chooses
built_in::choose_other-returns-in-With-clause-chooses g t c = λ captured h asks. rw c.in-With.is (c.choose_by_first-in-With.ensures.chooses captured h asks)

pub built_in::choose_other-returns-in-Lookup-clause-chooses : goal.built_in::choose_other-returns-in-Lookup-clause-chooses
built_in::choose_other-returns-in-Lookup-clause-chooses g t c = λ captured h asks. rw c.in-Lookup.is (c.choose_by_two.ensures.chooses captured h)

pub built_in::choose_other-returns-in-Raw-clause-chooses : goal.built_in::choose_other-returns-in-Raw-clause-chooses
built_in::choose_other-returns-in-Raw-clause-chooses g t c = λ captured h asks. rw c.in-Raw.is (c.choose_body.ensures.chooses captured h)

pub built_in::choose_other-returns-in-Log-clause-chooses : goal.built_in::choose_other-returns-in-Log-clause-chooses
built_in::choose_other-returns-in-Log-clause-chooses g t c = λ captured h asks. rw c.in-Log.is (c.choose_line.ensures.chooses captured h)

pub built_in::choose_other-returns-in-Eq-clause-chooses : goal.built_in::choose_other-returns-in-Eq-clause-chooses
built_in::choose_other-returns-in-Eq-clause-chooses g t c = λ captured h asks. rw c.in-Eq.is (c.choose_by_two-in-Eq.ensures.chooses captured h)

pub built_in::choose_other-returns-in-Ne-clause-chooses : goal.built_in::choose_other-returns-in-Ne-clause-chooses
built_in::choose_other-returns-in-Ne-clause-chooses g t c = λ captured h asks. rw c.in-Ne.is (c.choose_by_two-in-Ne.ensures.chooses captured h)

pub built_in::choose_other-returns-in-Gt-clause-chooses : goal.built_in::choose_other-returns-in-Gt-clause-chooses
built_in::choose_other-returns-in-Gt-clause-chooses g t c = λ captured h asks. rw c.in-Gt.is (c.choose_by_two-in-Gt.ensures.chooses captured h)

pub built_in::choose_other-returns-in-Gte-clause-chooses : goal.built_in::choose_other-returns-in-Gte-clause-chooses
built_in::choose_other-returns-in-Gte-clause-chooses g t c = λ captured h asks. rw c.in-Gte.is (c.choose_by_two-in-Gte.ensures.chooses captured h)

pub built_in::choose_other-returns-in-Lt-clause-chooses : goal.built_in::choose_other-returns-in-Lt-clause-chooses
built_in::choose_other-returns-in-Lt-clause-chooses g t c = λ captured h asks. rw c.in-Lt.is (c.choose_by_two-in-Lt.ensures.chooses captured h)

pub built_in::choose_other-returns-in-Lte-clause-chooses : goal.built_in::choose_other-returns-in-Lte-clause-chooses
built_in::choose_other-returns-in-Lte-clause-chooses g t c = λ captured h asks. rw c.in-Lte.is (c.choose_by_two-in-Lte.ensures.chooses captured h)

pub built_in::choose_other-returns-in-And-clause-chooses : goal.built_in::choose_other-returns-in-And-clause-chooses
built_in::choose_other-returns-in-And-clause-chooses g t c = λ captured h asks. rw c.in-And.is (c.choose_by_truth.ensures.chooses captured h)

pub built_in::choose_other-returns-in-Or-clause-chooses : goal.built_in::choose_other-returns-in-Or-clause-chooses
built_in::choose_other-returns-in-Or-clause-chooses g t c = λ captured h asks. rw c.in-Or.is (c.choose_by_truth-in-Or.ensures.chooses captured h)

pub built_in::choose_other-returns-in-Not-clause-chooses : goal.built_in::choose_other-returns-in-Not-clause-chooses
built_in::choose_other-returns-in-Not-clause-chooses g t c = λ captured h asks. rw c.in-Not.is (c.choose_by_first-in-Not.ensures.chooses captured h asks)

pub built_in::choose_other-returns-in-Len-clause-chooses : goal.built_in::choose_other-returns-in-Len-clause-chooses
built_in::choose_other-returns-in-Len-clause-chooses g t c = λ captured h asks. rw c.in-Len.is (c.choose_by_first-in-Len.ensures.chooses captured h asks)
