use Rattle.std.proofs.Common.{drop, map}
use Rattle.std.specs.List.{flat_map}
use Rattle.handlebars_html.specs.Registry.{whys_of_helper}
use Rattle.handlebars_html.specs.SearchView.{helper_of}
use Rattle.handlebars_html.proofs.Appended.{AppendsFrom}
use Rattle.handlebars_html.proofs.parts.check_helpers.Given as goal

abbrev pub invariant-helpers : goal.invariant-helpers
invariant-helpers l =
    AppendsFrom l.initial.faults.items l.faults.items (flat_map whys_of_helper (map helper_of (drop l.helper-index l.helpers))) (flat_map whys_of_helper (map helper_of l.helpers))
