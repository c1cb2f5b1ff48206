use Rattle.std.proofs.Common.{◌≡◌, ◌++◌, drop, map}
use Rattle.handlebars_html.specs.Html.{beginning}
use Rattle.handlebars_html.specs.HtmlView.{html_of}
use Rattle.handlebars_html.specs.Rows.{without_state}
use Rattle.handlebars_html.proofs.states.without_beginning.Given as goal

abbrev pub invariant-states : goal.invariant-states
invariant-states l =
    map html_of l.rest.items ++ without_state (map html_of (drop l.state-index l.states)) beginning
    ≡ without_state (map html_of l.states) beginning
