use Rattle.std.proofs.Common.{ap, ◌∙◌, map, option_map}
use Rattle.std.specs.Prelude.{unwrap_or}
use Rattle.serde_json.specs.View.{view}
use Rattle.handlebars_base.specs.Bytes.{Text}
use Rattle.handlebars_template.specs.Tree.{call_binding}
use Rattle.handlebars_template.specs.TreeView.{call_view}
use Rattle.handlebars_helpers.specs.CallView.{CallView, HelperView, with_constants}
use Rattle.handlebars_helpers.specs.Callee.{user}
use Rattle.handlebars_semantics.specs.Values.{view_without_bodies}
use Rattle.handlebars_expand.specs.Boxed.{answer_of}
use Rattle.handlebars_expand.proofs.Values.{yields-for}
use Rattle.handlebars_values.specs.ParamView.{value_found}
use Rattle.handlebars_values.specs.View.{called_view, setting_in, state_with}
use Rattle.handlebars_values.proofs.parentheses.user_called_value.Goals as goal

pub returns-clause-value : goal.returns-clause-value
returns-clause-value g c = λ captured.
    let v = called_view c.args.call in
    let b = call_binding (call_view c.args.helper.now) in
    let asked = option_map (λ t. t.now) c.args.asked_by in
    let seen = c.in_ok-view.ensures ∙ ap (λ (z : CallView). view_without_bodies b z) c.in_ok-call.ensures in
    yields-for (setting_in g.P.Registered.parts c.args.environment.now) (state_with captured c.args.run.now)
    (with_constants (map view c.args.constants.now) (view_without_bodies b v)) value_found (user (unwrap_or asked v.name)) (answer_of c.user_value.result)
    (ap (λ (t : Text). user t) (c.asked_name.ensures ∙ ap (λ (h : HelperView). unwrap_or asked h.call.name) seen))
    seen (c.user_value.ensures.value captured)
