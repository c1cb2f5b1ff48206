use Rattle.std.proofs.Common.{string_bytes}
use Rattle.handlebars_layers.specs.Chain.{names_at}
use Rattle.handlebars_layers.specs.Destination.{frames_in, given_in}
use Rattle.handlebars_layers.proofs.Destinations.{routes-hit, routes-none}
use Rattle.handlebars_layers.proofs.route.route_under_prefix.Goals as goal

pub returns-in-Some-clause-routes : goal.returns-in-Some-clause-routes
returns-in-Some-clause-routes c =
    routes-hit (given_in c.args.scopes) _ (names_at (frames_in c.args.scopes)) (string_bytes c.args.name.now) c.in-Some.route
    c.in-Some.ensures.found

pub returns-in-None-clause-routes : goal.returns-in-None-clause-routes
returns-in-None-clause-routes c =
    routes-none (given_in c.args.scopes) (names_at (frames_in c.args.scopes)) (string_bytes c.args.name.now) c.in-None.ensures.found
