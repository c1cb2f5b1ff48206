use Rattle.std.proofs.Common.{ap, false}
use Rattle.serde_json.specs.View.{view}
use Rattle.handlebars_base.specs.PathView.{segments_of}
use Rattle.handlebars_scope.specs.Resolve.{found_by}
use Rattle.handlebars_layers.specs.Destination.{frames_in, given_in}
use Rattle.handlebars_layers.proofs.Destinations.{destination-at}
use Rattle.handlebars_layers.proofs.Frames.{resolution-value}
use Rattle.handlebars_layers.proofs.lookup.navigate_nearest.Goals as goal

pub returns-in-Some : goal.returns-in-Some
returns-in-Some c =
    let d = given_in c.args.scopes in
    destination-at _ _ c.enter_value.result
    (ap (λ x. found_by x d) (resolution-value false (frames_in c.args.scopes) (segments_of c.args.segments.now) (view c.in-Some.value.now) c.in-Some.ensures))
    (c.enter_value.ensures d)
