use Rattle.std.proofs.Common.{◌≡◌, ap, arith, length}
use Rattle.handlebars_expressions.specs.Runs.{goes}
use Rattle.handlebars_expressions.specs.ExpressionReading.{expression_step}
use Rattle.handlebars_expressions.specs.ExpressionView.{enclosure_of, expression_state_of, event_of}
use Rattle.handlebars_expressions.proofs.ExpressionBounds.{expression_bounds}
use Rattle.handlebars_syntax.proofs.reading.read_terms.Goals as goal

pub steps-smaller : goal.steps-smaller
steps-smaller c =
    let rest = c.steps.stop.rest.now in
    let at : goes (event_of c.in-Goes.event) (expression_state_of c.in-Goes.next) c.in-Goes.after.now ≡ expression_step (enclosure_of c.enclosure.result) (expression_state_of c.steps.state) rest = rw c.in-Goes.is at c.in_ok-event.ensures in
    let shorter = (expression_bounds (enclosure_of c.enclosure.result) (expression_state_of c.steps.state) rest (event_of c.in-Goes.event) (expression_state_of c.in-Goes.next) c.in-Goes.after.now at).shorter in
    omega (arith, shorter, ap length c.after_event-stop.ensures)
