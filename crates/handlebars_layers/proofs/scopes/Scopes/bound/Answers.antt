use Rattle.std.proofs.Common.{◌∙◌}
use Rattle.handlebars_scope.specs.ScopeView.{frame_of}
use Rattle.handlebars_layers.proofs.Frames.{bound-none, bound-of}
use Rattle.handlebars_layers.proofs.Layers.{first-Outside}
use Rattle.handlebars_layers.proofs.scopes.Scopes.bound.Goals as goal

pub returns-in-Some : goal.returns-in-Some
returns-in-Some c = c.bound_in.ensures ∙ bound-of _ (frame_of c.in-Some.frame.now) c.args.name.now
    (c.in-Some.ensures ∙ first-Outside _ c.in-Outside.frames c.args.self.skipped c.in-Outside.is)

pub returns-in-None : goal.returns-in-None
returns-in-None c =
    bound-none _ c.args.name.now (c.in-None.ensures ∙ first-Outside _ c.in-Outside.frames c.args.self.skipped c.in-Outside.is)
