use Rattle.std.proofs.Common.{ap}
use Rattle.handlebars_scope.specs.Resolve.{found_by}
use Rattle.handlebars_layers.specs.Destination.{given_in}
use Rattle.handlebars_layers.proofs.Destinations.{destination-at}
use Rattle.handlebars_layers.proofs.lookup.navigate_by_resolution.Goals as goal

pub returns-in-Within : goal.returns-in-Within
returns-in-Within c =
    let d = given_in c.args.scopes in
    destination-at _ _ c.enter_value.result (ap (λ x. found_by x d) c.in-Within.ensures.resolution) (c.enter_value.ensures d)
