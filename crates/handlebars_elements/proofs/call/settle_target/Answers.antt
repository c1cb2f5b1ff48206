use Rattle.std.proofs.Common.{refl}
use Rattle.std.specs.Cow.{cow_str_bytes}
use Rattle.handlebars_template.specs.TreeView.{call_view}
use Rattle.handlebars_scope.specs.Contexts.{data_of}
use Rattle.handlebars_scope.specs.LineView.{line_of}
use Rattle.handlebars_expand.specs.Targets.{target_in}
use Rattle.handlebars_values.specs.View.{state_with}
use Rattle.handlebars_elements.specs.Chosen.{chosen_of}
use Rattle.handlebars_elements.proofs.Settling.{entered-marked, in_call-leads, in_call-propagated}
use Rattle.handlebars_elements.proofs.call.settle_target.Goals as goal

pub returns-in_err-chosen-clause-leads : goal.returns-in_err-chosen-clause-leads
returns-in_err-chosen-clause-leads g c = λ occurrence location captured.
    in_call-propagated _ _ _ _ _ captured occurrence c.args.block (call_view c.args.helper.now) (cow_str_bytes c.args.name)
    (target_in c.args.block (cow_str_bytes c.args.name) c.args.target) c.from_residual.result _ c.from_residual.ensures.1 refl
    (c.in_err-chosen.ensures.chooses captured)

pub returns-clause-leads : goal.returns-clause-leads
returns-clause-leads g c = λ occurrence location captured.
    in_call-leads _ _ _ _ _ captured occurrence c.args.block (call_view c.args.helper.now) (cow_str_bytes c.args.name)
    (target_in c.args.block (cow_str_bytes c.args.name) c.args.target) (chosen_of c.in_ok-chosen.chosen) c.execute.result
    (state_with captured (record c.args.run.now { line = c.line_in-run.result }))
    (entered-marked c.args.helper.now (state_with captured c.args.run.now) (line_of c.line_in-run.result) (line_of c.args.run.now.line)
    c.line_in-run.ensures)
    (c.in_ok-chosen.ensures.chooses captured)
    (λ v. c.execute.ensures.leads occurrence location (call_view c.args.helper.now) v captured)

pub returns-clause-given : goal.returns-clause-given
returns-clause-given g c = c.execute.ensures.given (data_of c.args.environment.now.innermost.given.now) c.in_ok-chosen.ensures.given
