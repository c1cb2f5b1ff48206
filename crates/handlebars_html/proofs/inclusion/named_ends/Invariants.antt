use Rattle.handlebars_html.specs.ReadingView.{rows_at}
use Rattle.handlebars_html.proofs.NamedEnds.{NamedFrom}
use Rattle.handlebars_html.proofs.inclusion.named_ends.Given as goal

abbrev pub invariant-states : goal.invariant-states
invariant-states l =
    NamedFrom l.name (rows_at l.reading) l.states l.state-index l.ends.items l.initial.found l.found
