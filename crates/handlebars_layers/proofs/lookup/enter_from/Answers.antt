use Rattle.std.proofs.Common.{◌++◌, ◌∙◌, ap, sym}
use Rattle.serde_json.specs.View.{view}
use Rattle.handlebars_base.specs.PathView.{segments_of}
use Rattle.handlebars_scope.specs.Resolve.{names_of}
use Rattle.handlebars_scope.specs.ResolutionView.{names_in, reached_of}
use Rattle.handlebars_layers.specs.Chain.{names_at}
use Rattle.handlebars_layers.specs.Destination.{given_in, frames_in}
use Rattle.handlebars_layers.specs.declared.destination.Destination.TheVariants.{Node}
use Rattle.handlebars_layers.proofs.Destinations.{destination-by}
use Rattle.handlebars_layers.proofs.Nodes.{found-fails, found-from, found-nothing}
use Rattle.handlebars_layers.proofs.lookup.enter_from.Goals as goal

pub returns-in-Value-reached : goal.returns-in-Value-reached
returns-in-Value-reached c =
    let base = names_at (frames_in c.args.start) in
    let further = names_in c.args.bound.now ++ names_of (segments_of c.args.rest.now) in
    destination-by (Node c.in-Value-reached.node) (base ++ further) _ (found-from (given_in c.args.start) (view c.in-Value.base.now) base further _ c.in-Value.ensures
    (ap reached_of (sym c.in-Value-reached.is) ∙ c.enter-members.ensures.reached))

pub returns-in-Nothing-reached : goal.returns-in-Nothing-reached
returns-in-Nothing-reached c =
    found-from (given_in c.args.start) (view c.in-Value.base.now) (names_at (frames_in c.args.start))
    (names_in c.args.bound.now ++ names_of (segments_of c.args.rest.now)) _ c.in-Value.ensures
    (ap reached_of (sym c.in-Nothing-reached.is) ∙ c.enter-members.ensures.reached)

pub returns-in-NoIndex-reached : goal.returns-in-NoIndex-reached
returns-in-NoIndex-reached c =
    found-from (given_in c.args.start) (view c.in-Value.base.now) (names_at (frames_in c.args.start))
    (names_in c.args.bound.now ++ names_of (segments_of c.args.rest.now)) _ c.in-Value.ensures
    (ap reached_of (sym c.in-NoIndex-reached.is) ∙ c.enter-members.ensures.reached)

pub returns-in-Nothing : goal.returns-in-Nothing
returns-in-Nothing c =
    found-nothing (given_in c.args.start) (names_at (frames_in c.args.start))
    (names_in c.args.bound.now ++ names_of (segments_of c.args.rest.now)) c.in-Nothing.ensures

pub returns-in-NoIndex : goal.returns-in-NoIndex
returns-in-NoIndex c =
    found-fails (given_in c.args.start) (names_at (frames_in c.args.start))
    (names_in c.args.bound.now ++ names_of (segments_of c.args.rest.now)) _ c.in-NoIndex.ensures
