use Rattle.std.proofs.Common.{◌++◌, None, Some, ap}
use Rattle.handlebars_base.specs.PathView.{segments_of}
use Rattle.handlebars_scope.specs.Resolve.{found_by, names_of, value_at}
use Rattle.handlebars_scope.specs.ResolutionView.{names_in}
use Rattle.handlebars_layers.specs.Chain.{names_at}
use Rattle.handlebars_layers.specs.Destination.{frames_in, given_in}
use Rattle.handlebars_layers.specs.declared.destination.Route.{Route}
use Rattle.handlebars_layers.specs.declared.layer.Descent.{roll-Descent}
use Rattle.handlebars_layers.proofs.DescentNames.{names-plain}
use Rattle.handlebars_layers.proofs.Destinations.{routes-along, routes-at}
use Rattle.handlebars_layers.proofs.route.route_along.Goals as goal

pub returns-in-Along-clause-routes : goal.returns-in-Along-clause-routes
returns-in-Along-clause-routes c =
    let at = c.in-Along in
    let base = names_at (frames_in at.start) in
    let names = base ++ (names_in at.bound.now ++ names_of (segments_of at.rest.now)) in
    let d = given_in c.args.scopes in
    let route : Route = record { start = at.start; descent = roll-Descent (record { after = None; bound = at.bound; rest = at.rest; last = None }) } in
    routes-at _ _ (Some route) (ap (λ x. found_by x d) at.ensures.resolution)
    (routes-along names (value_at d names) route (ap (λ further. base ++ further) (names-plain at.bound at.rest)))
