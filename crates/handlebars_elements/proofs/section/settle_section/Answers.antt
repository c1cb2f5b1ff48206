use Rattle.std.proofs.Common.{true}
use Rattle.handlebars_base.specs.PathView.{reference_of}
use Rattle.handlebars_template.specs.Tree.{call_name}
use Rattle.handlebars_template.specs.TreeView.{call_view}
use Rattle.handlebars_scope.specs.Contexts.{data_of}
use Rattle.handlebars_scope.specs.LineView.{line_of}
use Rattle.handlebars_semantics.specs.Execute.{view_with_bodies}
use Rattle.handlebars_semantics.specs.Means.{render_call}
use Rattle.handlebars_semantics.specs.Sections.{section_call}
use Rattle.handlebars_expand.specs.Boxed.{answer_of}
use Rattle.handlebars_values.specs.ChoiceView.{choice_seen}
use Rattle.handlebars_values.specs.ParamView.{value_found}
use Rattle.handlebars_values.specs.View.{state_with}
use Rattle.handlebars_elements.specs.Left.{left_of, then_out}
use Rattle.handlebars_elements.proofs.SectionCalls.{name_view, section-chosen, section-unchosen, section-unfound}
use Rattle.handlebars_elements.proofs.Settling.{entered-marked, leads-propagated}
use Rattle.handlebars_elements.proofs.section.settle_section.Goals as goal

pub returns-in_err-value-clause-leads : goal.returns-in_err-value-clause-leads
returns-in_err-value-clause-leads g c = λ occurrence location captured section leads.
    let call = call_view c.args.helper.now in
    let v = name_view call in (
      v,
      leads-propagated _ _ (render_call occurrence true call)
          (λ x. then_out (line_of c.args.run.now.line) (left_of occurrence (view_with_bodies true call v) x)) _ _ c.from_residual.result _
          c.from_residual.ensures.1
          (section-unfound _ _ occurrence call (state_with captured c.args.run.now) section (reference_of c.args.path.now) leads
          (λ x. then_out (line_of c.args.run.now.line) (left_of occurrence (view_with_bodies true call v) x)) _
          (c.in_err-value.ensures.value captured)),
    )

pub returns-in_err-choice-clause-leads : goal.returns-in_err-choice-clause-leads
returns-in_err-choice-clause-leads g c = λ occurrence location captured section leads.
    let call = call_view c.args.helper.now in
    let v = name_view call in (
      v,
      leads-propagated _ _ (render_call occurrence true call)
          (λ x. then_out (line_of c.args.run.now.line) (left_of occurrence (view_with_bodies true call v) x)) _ _
          c.from_residual-in_err-choice.result _ c.from_residual-in_err-choice.ensures.1
          (section-unchosen _ _ occurrence call (state_with captured c.args.run.now) section (reference_of c.args.path.now) leads
          (value_found c.in_ok-value.value) (c.in_ok-value.ensures.value captured)
          (λ x. then_out (line_of c.args.run.now.line) (left_of occurrence (view_with_bodies true call v) x)) _ c.in_err-choice.ensures.chooses),
    )

pub returns-clause-leads : goal.returns-clause-leads
returns-clause-leads g c = λ occurrence location captured section leads.
    let call = call_view c.args.helper.now in
    let found = value_found c.in_ok-value.value in
    let v = (section_call (call_name call) (name_view call) found).1 in (
      v,
      section-chosen _ _ occurrence call (state_with captured c.args.run.now) section (reference_of c.args.path.now) leads found
          (c.in_ok-value.ensures.value captured) (choice_seen c.in_ok-choice.choice) (left_of occurrence (view_with_bodies true call v))
          (answer_of c.execute_built_in.result) (state_with captured (record c.args.run.now { line = c.line_in-run.result })) _ _
          (entered-marked c.args.helper.now (state_with captured c.args.run.now) (line_of c.line_in-run.result) (line_of c.args.run.now.line)
          c.line_in-run.ensures) c.in_ok-choice.ensures.chooses (c.execute_built_in.ensures.leads occurrence location call v captured),
    )

pub returns-clause-given : goal.returns-clause-given
returns-clause-given g c =
    let d = data_of c.args.environment.now.innermost.given.now in
    c.execute_built_in.ensures.given d (c.in_ok-choice.ensures.given d c.in_ok-value.ensures.given)
