use Rattle.handlebars_html.proofs.TextEnds.{TextFrom}
use Rattle.handlebars_html.proofs.texts.text_ends.Given as goal

abbrev pub invariant-states : goal.invariant-states
invariant-states l = TextFrom l.location l.text l.states l.state-index l.ends.items l.initial.found l.found
