use Rattle.std.proofs.Common.{◌≡◌, drop, map}
use Rattle.handlebars_html.specs.Html.{after_url}
use Rattle.handlebars_html.specs.HtmlView.{html_of}
use Rattle.handlebars_html.specs.Rows.{with_states, each_state}
use Rattle.handlebars_html.proofs.states.states_after_url.Given as goal

abbrev pub invariant-states : goal.invariant-states
invariant-states l =
    with_states (map html_of l.ends.items) (map after_url (map html_of (drop l.state-index l.states)))
    ≡ each_state after_url (map html_of l.states)
