use Rattle.handlebars_html.specs.Check.{whys_of_url}
use Rattle.handlebars_html.proofs.FoundSoFar.{ReasonsFrom}
use Rattle.handlebars_html.proofs.found.check_urls.Given as goal

abbrev pub invariant-states : goal.invariant-states
invariant-states l = ReasonsFrom l.location whys_of_url l.states l.state-index l.initial.found l.found
