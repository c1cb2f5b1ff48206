use Rattle.std.proofs.Common.{◌∙◌, ap, false, sym}
use Rattle.serde_json.specs.View.{view}
use Rattle.handlebars_base.specs.PathView.{segments_of}
use Rattle.handlebars_scope.specs.Resolve.{found_by, unbound_resolution}
use Rattle.handlebars_layers.specs.Destination.{frames_in, given_in}
use Rattle.handlebars_layers.proofs.Destinations.{destination-at}
use Rattle.handlebars_layers.proofs.Frames.{unbound-up-or-nearest}
use Rattle.handlebars_layers.proofs.lookup.navigate_unbound.Goals as goal

pub returns-else-is_from_root : goal.returns-else-is_from_root
returns-else-is_from_root c =
    let fs = frames_in c.args.scopes in
    let segments = segments_of c.args.segments.now in
    let resolution = unbound-up-or-nearest false fs (frames_in c.up_or_nearest.result) c.ups_in.result segments
    (sym c.is_from_root.ensures ∙ c.if-is_from_root.false) c.ups_in.ensures c.up_or_nearest.ensures.frames in
    destination-at _ _ c.navigate_nearest-else-is_from_root.result
    (ap (λ x. found_by x (given_in c.up_or_nearest.result)) resolution
    ∙ ap (λ v. found_by (unbound_resolution false fs segments) (view v.now)) c.up_or_nearest.ensures.given)
    c.navigate_nearest-else-is_from_root.ensures
