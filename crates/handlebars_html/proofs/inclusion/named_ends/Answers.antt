use Rattle.handlebars_html.specs.ReadingView.{rows_at}
use Rattle.handlebars_html.proofs.NamedEnds.{named-go}
use Rattle.handlebars_html.proofs.inclusion.named_ends.Goals as goal

pub states-preserved : goal.states-preserved
states-preserved c =
    named-go c.args.name.now (rows_at c.args.reading) c.args.states.now c.states.state-index c.state-item.result
    c.states.ends.items c.add_leaving_states.new.ends.items c.args.found.now c.states.found c.add_entering.new.found
    c.states-test.true c.state-item.is c.states.invariant c.in_ok-add_entering.ensures c.in_ok-add_leaving_states.ensures
