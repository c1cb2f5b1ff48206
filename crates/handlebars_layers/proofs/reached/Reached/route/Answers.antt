use Rattle.std.proofs.Common.{◌≡◌, Some, subst, sym}
use Rattle.serde_json.specs.View.{view}
use Rattle.handlebars_base.specs.PathView.{reference_of}
use Rattle.handlebars_scope.specs.Contexts.{data_of}
use Rattle.handlebars_scope.specs.Resolve.{resolve, value_at}
use Rattle.handlebars_layers.specs.Chain.{IsValue, frames}
use Rattle.handlebars_layers.specs.Destination.{route_names}
use Rattle.handlebars_layers.specs.LayerView.{chain_of}
use Rattle.handlebars_layers.specs.Reached.{reached_names}
use Rattle.handlebars_layers.proofs.Destinations.{routes-at, routes-names, walked-there}
use Rattle.handlebars_layers.proofs.reached.Reached.route.Goals as goal

pub returns-clause-there : goal.returns-clause-there
returns-clause-there c =
    let self = c.args.self in
    let d = data_of self.innermost.now.given.now in
    let v = view self.value.now in
    let path = reference_of self.path.now in
    let route = c.in-Some.route in
    let names : route_names route ≡ reached_names self =
    routes-names _ v route self.leads
    (routes-at _ _ (Some route) (λ i. resolve self.recursive (c.scopes.ensures.frames i) path (c.scopes.ensures.given i)) c.in-Some.ensures.routes) in
    subst (λ all. IsValue (value_at d all) v) (sym names)
    (walked-there self.recursive (frames (chain_of self.innermost.now.nearest.now)) path d v self.leads)
