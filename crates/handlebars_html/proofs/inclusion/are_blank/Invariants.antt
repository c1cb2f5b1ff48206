use Rattle.std.proofs.Common.{◌≡◌, drop}
use Rattle.std.specs.List.{list_all}
use Rattle.handlebars_html.specs.Html.{is_blank}
use Rattle.handlebars_html.proofs.inclusion.are_blank.Given as goal

abbrev pub invariant-loop-byte : goal.invariant-loop-byte
invariant-loop-byte l = list_all is_blank (drop l.byte-index l.text) ≡ list_all is_blank l.text
