use Rattle.std.proofs.Common.{◌∙◌, ap, Option}
use Rattle.std.specs.Prelude.{slice_get}
use Rattle.handlebars_scope.specs.Resolve.{or_else}
use Rattle.handlebars_scope.specs.ScopeView.{frames_of}
use Rattle.handlebars_scope.specs.Scopes.{Frame}
use Rattle.handlebars_scope.proofs.context.resolution.frame_up.Goals as goal

pub returns-in-Some : goal.returns-in-Some
returns-in-Some c = ap (λ (o : Option Frame). or_else o (slice_get (frames_of c.args.blocks.now.items) 0)) c.in-Some.ensures

pub returns-in-None : goal.returns-in-None
returns-in-None c = c.block_at-in-None.ensures
    ∙ ap (λ (o : Option Frame). or_else o (slice_get (frames_of c.args.blocks.now.items) 0)) c.in-None.ensures
