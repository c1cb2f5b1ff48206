use Rattle.std.proofs.Common.{false, sym}
use Rattle.std.specs.Cow.{cow_str_bytes}
use Rattle.handlebars_base.specs.Scoped.{missing}
use Rattle.handlebars_template.specs.TreeView.{call_view}
use Rattle.handlebars_template.proofs.Levels.{call_name-view}
use Rattle.handlebars_scope.specs.Contexts.{data_of}
use Rattle.handlebars_semantics.specs.Execute.{view_with_bodies}
use Rattle.handlebars_semantics.specs.Means.{render_found}
use Rattle.handlebars_expand.specs.Boxed.{answer_of, error_of}
use Rattle.handlebars_expand.specs.Targets.{target_in}
use Rattle.handlebars_expand.specs.View.{name_alone}
use Rattle.handlebars_elements.specs.Chosen.{chosen_of}
use Rattle.handlebars_elements.specs.Left.{left_of}
use Rattle.handlebars_elements.proofs.LoneElements.{hook-none, hook-there, missing-failed, missing-hooked, missing-nothing, missing-strict}
use Rattle.handlebars_elements.proofs.Settling.{leads-propagated}
use Rattle.handlebars_elements.proofs.alone.settle_missing.Goals as goal

pub returns-then-strict-clause-leads : goal.returns-then-strict-clause-leads
returns-then-strict-clause-leads g c = λ occurrence location alone captured.
    let call = call_view c.args.helper.now in
    let t = cow_str_bytes c.args.name in
    missing-strict _ _ occurrence call t (left_of occurrence (view_with_bodies false call (name_alone t))) (error_of c.missing_variable.result)
    (sym c.if-strict.ensures) (rw (call_name-view c.args.helper.now) c.missing_variable.ensures)

pub returns-in_err-chosen-in-Some-clause-leads : goal.returns-in_err-chosen-in-Some-clause-leads
returns-in_err-chosen-in-Some-clause-leads g c = λ occurrence location alone captured.
    let call = call_view c.args.helper.now in
    let t = cow_str_bytes c.args.name in
    let left = left_of occurrence (view_with_bodies false call (name_alone t)) in
    leads-propagated _ _ (render_found occurrence call (name_alone t) missing) left _ _ c.from_residual.result _ c.from_residual.ensures.1
    (missing-failed _ _ occurrence call t (target_in false t c.hooked.result) left _ alone (sym c.if-strict.ensures)
    (hook-there (g.P.Registered.parts c.args.environment.now.inclusion.now.parts.now) c.in-Some.callee c.hook.result.now (target_in false t c.hooked.result) c.hook.ensures c.in-Some.ensures (c.hooked.ensures false t))
    (c.in_err-chosen-in-Some.ensures.chooses captured))

pub returns-in-Some-clause-leads : goal.returns-in-Some-clause-leads
returns-in-Some-clause-leads g c = λ occurrence location alone captured.
    let call = call_view c.args.helper.now in
    let t = cow_str_bytes c.args.name in
    let left = left_of occurrence (view_with_bodies false call (name_alone t)) in
    missing-hooked _ _ occurrence call t (target_in false t c.hooked.result) (chosen_of c.in_ok-chosen-in-Some.chosen) left (answer_of c.execute.result) _ _ _
    alone (sym c.if-strict.ensures)
    (hook-there (g.P.Registered.parts c.args.environment.now.inclusion.now.parts.now) c.in-Some.callee c.hook.result.now (target_in false t c.hooked.result) c.hook.ensures c.in-Some.ensures (c.hooked.ensures false t))
    (c.in_ok-chosen-in-Some.ensures.chooses captured) (c.execute.ensures.leads occurrence location call (name_alone t) captured)

pub returns-in-Some-clause-given : goal.returns-in-Some-clause-given
returns-in-Some-clause-given g c =
    c.execute.ensures.given (data_of c.args.environment.now.innermost.given.now) c.in_ok-chosen-in-Some.ensures.given

pub returns-clause-leads : goal.returns-clause-leads
returns-clause-leads g c = λ occurrence location alone captured.
    let call = call_view c.args.helper.now in
    let t = cow_str_bytes c.args.name in
    missing-nothing _ _ occurrence call t (view_with_bodies false call (name_alone t)) _ _ (sym c.if-strict.ensures)
    (hook-none (g.P.Registered.parts c.args.environment.now.inclusion.now.parts.now) c.hook.result.now c.hook.ensures c.in-None.ensures)
