use Rattle.std.proofs.Common.{rules, ◌≡◌, ap, ◌∙◌, max}
use Rattle.handlebars_expressions.specs.Runs.{goes}
use Rattle.handlebars_expressions.specs.ExpressionReading.{expression_step, height}
use Rattle.handlebars_expressions.specs.ExpressionView.{mode_of, enclosure_of, expression_state_of, event_of}
use Rattle.handlebars_expressions.proofs.ExpressionBounds.{expression_bounds}
use Rattle.handlebars_expressions.proofs.Expressions.{measure-goes, measure-ends, measure-stuck}
use Rattle.handlebars_expressions.proofs.expression.split_terms.Goals as goal

pub reading-smaller : goal.reading-smaller
reading-smaller c =
    let at : goes (event_of c.in-Goes.event) (expression_state_of c.in-Goes.next) c.in-Goes.after.now ≡ expression_step (enclosure_of c.args.around) (expression_state_of c.reading.state) c.reading.rest.now = rw c.in-Goes.is at c.in_ok-event.ensures in
    (expression_bounds (enclosure_of c.args.around) (expression_state_of c.reading.state) c.reading.rest.now (event_of c.in-Goes.event) (expression_state_of c.in-Goes.next) c.in-Goes.after.now at).shorter

pub reading-preserved : goal.reading-preserved
reading-preserved c =
    let at : goes (event_of c.in-Goes.event) (expression_state_of c.in-Goes.next) c.in-Goes.after.now ≡ expression_step (enclosure_of c.args.around) (expression_state_of c.reading.state) c.reading.rest.now = rw c.in-Goes.is at c.in_ok-event.ensures in
    let deeper : c.larger-depth.result ≡ max c.reading.depth (height (event_of c.in-Goes.event)) = c.larger-depth.ensures ∙ ap (max c.reading.depth) c.height.ensures in
    record {
      text = search rules;
      measures = measure-goes (mode_of c.args.mode) (enclosure_of c.args.around) c.args.text.now (expression_state_of c.reading.state) c.reading.rest.now c.reading.depth (event_of c.in-Goes.event) (expression_state_of c.in-Goes.next) c.in-Goes.after.now c.larger-depth.result at deeper c.reading.invariant.measures;
    }

pub returns-in-Ends : goal.returns-in-Ends
returns-in-Ends c = measure-ends (mode_of c.args.mode) (enclosure_of c.args.around) c.args.text.now (expression_state_of c.reading.state) c.reading.rest.now c.reading.depth (rw c.in-Ends.is at c.in_ok-event.ensures) c.reading.invariant.measures

pub returns-in-Stuck : goal.returns-in-Stuck
returns-in-Stuck c = measure-stuck (mode_of c.args.mode) (enclosure_of c.args.around) c.args.text.now (expression_state_of c.reading.state) c.reading.rest.now c.reading.depth (rw c.in-Stuck.is at c.in_ok-event.ensures) c.reading.invariant.measures
