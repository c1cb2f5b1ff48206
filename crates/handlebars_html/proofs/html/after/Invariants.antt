use Rattle.std.proofs.Common.{◌≡◌, drop}
use Rattle.handlebars_html.specs.Html.{after}
use Rattle.handlebars_html.specs.HtmlView.{html_of}
use Rattle.handlebars_html.proofs.html.after.Given as goal

abbrev pub invariant-loop-byte : goal.invariant-loop-byte
invariant-loop-byte l =
    after (html_of l.state) (drop l.byte-index l.text) ≡ after (html_of l.initial.state) l.text
