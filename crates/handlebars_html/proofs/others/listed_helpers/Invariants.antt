use Rattle.std.proofs.Common.{map, string_bytes}
use Rattle.handlebars_html.specs.SearchView.{helper_of}
use Rattle.handlebars_html.proofs.Listed.{HelpersSoFar}
use Rattle.handlebars_html.proofs.others.listed_helpers.Given as goal

abbrev pub invariant-names : goal.invariant-names
invariant-names g l =
    HelpersSoFar (g.E.UserParts.registered l.entries).helper (g.E.UserParts.user l.entries).helper
    (map helper_of l.others.items) (map string_bytes l.name-iterator) (map string_bytes l.names.keys)
