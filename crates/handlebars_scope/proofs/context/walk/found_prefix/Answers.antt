use Rattle.std.proofs.Common.{◌≡◌, ◌∙◌, Some, string_bytes, ap, sym, rules}
use Rattle.serde_json.specs.View.{view}
use Rattle.handlebars_scope.specs.Resolve.{found_prefix, longest}
use Rattle.handlebars_scope.specs.ResolutionView.{names_in}
use Rattle.handlebars_scope.proofs.Prefixes.{found_prefix-retained}
use Rattle.handlebars_scope.proofs.context.walk.found_prefix.Goals as goal

pub returns-in_ok-prefix-in-Some-clause-found : goal.returns-in_ok-prefix-in-Some-clause-found
returns-in_ok-prefix-in-Some-clause-found c =
    let base = c.args.base.now in
    let name = string_bytes c.args.name.now in
    let found = c.in-Some in
    let hit : longest (view c.args.given.now) (names_in base) name
    ≡ Some (found.retained, view found.value.now) = search rules in
    sym (ap (found_prefix (names_in base) name) hit ∙ found_prefix-retained base found.retained _ name _ (search rules))
