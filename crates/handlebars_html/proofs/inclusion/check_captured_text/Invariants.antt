use Rattle.std.proofs.Common.{[], drop, map}
use Rattle.std.specs.List.{flat_map}
use Rattle.handlebars_html.specs.Faults.{unless, captured_text_in}
use Rattle.handlebars_html.specs.Html.{beginning}
use Rattle.handlebars_html.specs.HtmlView.{html_of}
use Rattle.handlebars_html.specs.Same.{is_same}
use Rattle.handlebars_html.specs.FoundView.{findings_in}
use Rattle.handlebars_html.proofs.FoundSoFar.{Accumulates}
use Rattle.handlebars_html.proofs.inclusion.check_captured_text.Given as goal

abbrev pub invariant-states : goal.invariant-states
invariant-states l =
    Accumulates [] l.initial.found l.found
    (findings_in l.location
    (flat_map (λ h. unless (is_same h beginning) (captured_text_in h)) (map html_of (drop l.state-index l.states))))
    (findings_in l.location (flat_map (λ h. unless (is_same h beginning) (captured_text_in h)) (map html_of l.states)))
