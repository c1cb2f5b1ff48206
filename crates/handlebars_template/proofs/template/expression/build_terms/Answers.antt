use Rattle.std.proofs.Common.{rules, arith, ◌≡◌}
use Rattle.handlebars_expressions.specs.Runs.{goes}
use Rattle.handlebars_expressions.specs.ExpressionReading.{expression_step}
use Rattle.handlebars_expressions.specs.ExpressionView.{mode_of, enclosure_of, expression_state_of, event_of}
use Rattle.handlebars_expressions.proofs.ExpressionBounds.{expression_bounds}
use Rattle.handlebars_template.specs.ExpressionBuildingView.{calls_view}
use Rattle.handlebars_template.proofs.ExpressionCalls.{builds-goes, builds-ends, builds-stuck, builds-lost}
use Rattle.handlebars_template.proofs.template.expression.build_terms.Goals as goal

pub building-preserved : goal.building-preserved
building-preserved c =
    let step : goes (event_of c.in-Goes.event) (expression_state_of c.in-Goes.next) c.in-Goes.after.now ≡ expression_step (enclosure_of c.args.around) (expression_state_of c.building.state) c.building.rest.now = rw c.in-Goes.is at c.in_ok-event.ensures in
    let bounds = expression_bounds (enclosure_of c.args.around) (expression_state_of c.building.state) c.building.rest.now (event_of c.in-Goes.event) (expression_state_of c.in-Goes.next) c.in-Goes.after.now step in
    record {
      text = search rules;
      builds = builds-goes (mode_of c.args.mode) (enclosure_of c.args.around) c.args.text.now (expression_state_of c.building.state) c.building.rest.now (calls_view c.building.calls) (event_of c.in-Goes.event) (expression_state_of c.in-Goes.next) c.in-Goes.after.now (calls_view c.take.new.self) step (rw c.if-not-branch.false at c.in_ok-take-in-Goes.ensures) c.building.invariant.builds;
      within = omega (arith, bounds.level_within, c.building.invariant.within);
    }

pub building-smaller : goal.building-smaller
building-smaller c =
    let step : goes (event_of c.in-Goes.event) (expression_state_of c.in-Goes.next) c.in-Goes.after.now ≡ expression_step (enclosure_of c.args.around) (expression_state_of c.building.state) c.building.rest.now = rw c.in-Goes.is at c.in_ok-event.ensures in
    (expression_bounds (enclosure_of c.args.around) (expression_state_of c.building.state) c.building.rest.now (event_of c.in-Goes.event) (expression_state_of c.in-Goes.next) c.in-Goes.after.now step).shorter

pub returns-in-Stuck : goal.returns-in-Stuck
returns-in-Stuck c expression left l =
    builds-stuck (mode_of c.args.mode) (enclosure_of c.args.around) c.args.text.now (expression_state_of c.building.state) c.building.rest.now (calls_view c.building.calls) expression left
    (rw c.in-Stuck.is at c.in_ok-event.ensures) c.building.invariant.builds l

pub returns-then-not-branch : goal.returns-then-not-branch
returns-then-not-branch c expression left l =
    builds-lost (mode_of c.args.mode) (enclosure_of c.args.around) c.args.text.now (expression_state_of c.building.state) c.building.rest.now (calls_view c.building.calls) (event_of c.in-Goes.event) (expression_state_of c.in-Goes.next) c.in-Goes.after.now (calls_view c.take.new.self) expression left
    (rw c.in-Goes.is at c.in_ok-event.ensures) (rw c.if-not-branch.true at c.in_ok-take-in-Goes.ensures) c.building.invariant.builds l

pub returns-in-Ends : goal.returns-in-Ends
returns-in-Ends c expression left l =
    c.finish.ensures expression
    (builds-ends (mode_of c.args.mode) (enclosure_of c.args.around) c.args.text.now (expression_state_of c.building.state) c.building.rest.now (calls_view c.building.calls)
    (rw c.in-Ends.is at c.in_ok-event.ensures) c.building.invariant.builds expression left l)
