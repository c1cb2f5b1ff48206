use Rattle.std.proofs.Common.{[], sym}
use Rattle.std.specs.Cow.{cow_str_bytes}
use Rattle.handlebars_template.specs.TreeView.{call_view}
use Rattle.handlebars_scope.specs.Contexts.{data_of}
use Rattle.handlebars_scope.specs.LineView.{line_of}
use Rattle.handlebars_semantics.specs.Means.{render_call}
use Rattle.handlebars_expand.specs.Boxed.{answer_of}
use Rattle.handlebars_expand.specs.Targets.{target_in}
use Rattle.handlebars_expand.specs.View.{name_alone}
use Rattle.handlebars_values.specs.View.{CapturedIn, setting_in, state_with, within}
use Rattle.handlebars_elements.specs.Left.{left_in_call}
use Rattle.handlebars_elements.proofs.Settling.{in_call-settles, leads-propagated, leads-unnamed, leads-without, named-as, without-next, without-section}
use Rattle.handlebars_elements.proofs.call.settle_call.Goals as goal

pub returns-in_err-name-clause-leads : goal.returns-in_err-name-clause-leads
returns-in_err-name-clause-leads g c = λ occurrence location captured.
    let v = name_alone [] in (
      v,
      leads-propagated (setting_in g.P.Registered.parts c.args.environment.now) _ (render_call occurrence c.args.block (call_view c.args.helper.now))
          (left_in_call occurrence c.args.block (call_view c.args.helper.now) v (line_of c.args.run.now.line)) _ _ c.from_residual.result _
          c.from_residual.ensures.1
          (leads-unnamed (setting_in g.P.Registered.parts c.args.environment.now) _ occurrence c.args.block (call_view c.args.helper.now)
          (left_in_call occurrence c.args.block (call_view c.args.helper.now) v (line_of c.args.run.now.line)) _
          (λ other. named-as (setting_in g.P.Registered.parts c.args.environment.now) (state_with captured c.args.run.now) c.args.helper.now _
          (c.in_err-name.ensures captured other))),
    )

pub returns-in-Some-clause-leads : goal.returns-in-Some-clause-leads
returns-in-Some-clause-leads g c = λ occurrence location captured.
    in_call-settles _ _ _ _ _ captured occurrence c.args.block (call_view c.args.helper.now) (cow_str_bytes c.in_ok-name.name)
    (target_in c.args.block (cow_str_bytes c.in_ok-name.name) c.in-Some.target) (data_of c.args.environment.now.innermost.given.now)
    c.settle_target.result c.settle_target.ensures.given
    (named-as (setting_in g.P.Registered.parts c.args.environment.now) (state_with captured c.args.run.now) c.args.helper.now _
    (c.in_ok-name.ensures captured))
    (sym (rw c.as_str.ensures.value at (c.in-Some.ensures []))) (c.settle_target.ensures.leads occurrence location captured)

pub returns-in-None-clause-leads : goal.returns-in-None-clause-leads
returns-in-None-clause-leads g c = λ occurrence location captured.
    let v = name_alone [] in (
      v,
      leads-without (setting_in g.P.Registered.parts c.args.environment.now) (state_with captured c.args.run.now) c.args.block
          (call_view c.args.helper.now) _ occurrence v (line_of c.args.run.now.line) (answer_of c.settle_without_helper.result) _
          (c.settle_without_helper.ensures captured
          (named-as (setting_in g.P.Registered.parts c.args.environment.now) (state_with captured c.args.run.now) c.args.helper.now _
          (c.in_ok-name.ensures captured))
          (sym (rw c.as_str.ensures.value at (c.in-None.ensures [])))),
    )

pub returns-in-None-clause-section : goal.returns-in-None-clause-section
returns-in-None-clause-section g c = λ captured.
    without-section (setting_in g.P.Registered.parts c.args.environment.now) (state_with captured c.args.run.now) c.args.block
    (call_view c.args.helper.now) c.settle_without_helper.result
    (c.settle_without_helper.ensures captured
    (named-as (setting_in g.P.Registered.parts c.args.environment.now) (state_with captured c.args.run.now) c.args.helper.now _
    (c.in_ok-name.ensures captured))
    (sym (rw c.as_str.ensures.value at (c.in-None.ensures []))))

pub returns-in-None-clause-given : goal.returns-in-None-clause-given
returns-in-None-clause-given g c =
    let captured : CapturedIn (within c.args.environment.now) = record { pieces = [] } in
    without-next (setting_in g.P.Registered.parts c.args.environment.now) (state_with captured c.args.run.now) c.args.block
    (call_view c.args.helper.now) (data_of c.args.environment.now.innermost.given.now) c.settle_without_helper.result
    (c.settle_without_helper.ensures captured
    (named-as (setting_in g.P.Registered.parts c.args.environment.now) (state_with captured c.args.run.now) c.args.helper.now _
    (c.in_ok-name.ensures captured))
    (sym (rw c.as_str.ensures.value at (c.in-None.ensures []))))
