use Rattle.handlebars_html.proofs.TextEnds.{text-go}
use Rattle.handlebars_html.proofs.texts.text_ends.Goals as goal

pub states-preserved : goal.states-preserved
states-preserved c =
    text-go c.args.location c.args.text.now c.args.states.now c.states.state-index c.state-item.result c.in_ok-text_end.field-0
    c.states.ends.items c.add_in_time.new.ends.items c.args.found.now c.states.found c.text_end.new.found
    c.states-test.true c.state-item.is c.states.invariant c.in_ok-text_end.ensures.is_after c.in_ok-text_end.ensures.adds
    c.in_ok-add_in_time.ensures
