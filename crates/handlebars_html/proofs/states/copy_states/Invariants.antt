use Rattle.std.proofs.Common.{◌≡◌, ◌++◌, drop, map}
use Rattle.handlebars_html.specs.HtmlView.{html_of}
use Rattle.handlebars_html.proofs.states.copy_states.Given as goal

abbrev pub invariant-states : goal.invariant-states
invariant-states l = map html_of l.copies.items ++ map html_of (drop l.state-index l.states) ≡ map html_of l.states
