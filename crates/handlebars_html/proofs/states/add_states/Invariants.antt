use Rattle.std.proofs.Common.{◌≡◌, drop, map}
use Rattle.handlebars_html.specs.HtmlView.{html_of}
use Rattle.handlebars_html.specs.Rows.{with_states}
use Rattle.handlebars_html.proofs.states.add_states.Given as goal

abbrev pub invariant-others : goal.invariant-others
invariant-others l =
    with_states (map html_of l.states.items) (map html_of (drop l.other-index l.others))
    ≡ with_states (map html_of l.initial.states.items) (map html_of l.others)
