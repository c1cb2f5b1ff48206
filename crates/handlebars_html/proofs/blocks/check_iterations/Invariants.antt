use Rattle.std.proofs.Common.{[], drop, map}
use Rattle.handlebars_html.specs.Check.{whys_of_iterations}
use Rattle.handlebars_html.specs.HtmlView.{html_of}
use Rattle.handlebars_html.specs.FoundView.{findings_in}
use Rattle.handlebars_html.proofs.FoundSoFar.{Accumulates}
use Rattle.handlebars_html.proofs.blocks.check_iterations.Given as goal

abbrev pub invariant-ends : goal.invariant-ends
invariant-ends l =
    Accumulates [] l.initial.found l.found
    (findings_in l.location (whys_of_iterations (html_of l.state) (map html_of (drop l.end-index l.ends))))
    (findings_in l.location (whys_of_iterations (html_of l.state) (map html_of l.ends)))
