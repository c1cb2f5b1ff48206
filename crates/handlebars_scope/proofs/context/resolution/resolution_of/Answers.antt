use Rattle.handlebars_base.specs.PathView.{segments_of}
use Rattle.handlebars_scope.specs.ScopeView.{frames_of}
use Rattle.handlebars_scope.proofs.Resolutions.{resolution_of-bound, resolution_of-unbound}
use Rattle.handlebars_scope.proofs.context.resolution.resolution_of.Goals as goal

pub returns-in-Some : goal.returns-in-Some
returns-in-Some c = resolution_of-bound c.args.recursive (frames_of c.args.blocks.now.items)
    (segments_of c.args.segments.now) c.past_ups-ups.ensures.after c.in-Some.ensures

pub returns-in-None : goal.returns-in-None
returns-in-None c = resolution_of-unbound c.args.recursive (frames_of c.args.blocks.now.items)
    (segments_of c.args.segments.now) c.past_ups-ups.ensures.after c.in-None.ensures c.unbound_resolution.ensures
