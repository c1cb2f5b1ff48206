use Rattle.std.proofs.Common.{None, ap, string_bytes, sym}
use Rattle.handlebars_base.specs.Answers.{gives}
use Rattle.handlebars_base.specs.PathView.{reference_of}
use Rattle.handlebars_scope.specs.Resolve.{resolve, variable_at}
use Rattle.handlebars_layers.specs.Destination.{frames_in, given_in}
use Rattle.handlebars_layers.proofs.Destinations.{routes-at, routes-within}
use Rattle.handlebars_layers.proofs.route.route_to.Goals as goal

pub returns-in-Local-clause-routes : goal.returns-in-Local-clause-routes
returns-in-Local-clause-routes c =
    let fs = frames_in c.args.scopes in
    let variable = c.in-Local.field-0 in
    routes-at _ _ None (sym (ap (λ p. resolve c.args.recursive fs (reference_of p) (given_in c.args.scopes)) c.in-Local.is))
    (routes-within (gives (variable_at fs variable.0 (string_bytes variable.1))) None)
