use Rattle.std.proofs.Common.{◌∙◌}
use Rattle.handlebars_scope.specs.ScopeView.{frame_of}
use Rattle.handlebars_layers.proofs.Frames.{base_value-none, base_value-of}
use Rattle.handlebars_layers.proofs.Layers.{first-Outside}
use Rattle.handlebars_layers.proofs.scopes.Scopes.base_value.Goals as goal

pub returns-in-Some : goal.returns-in-Some
returns-in-Some c = c.base_value.ensures ∙ base_value-of _ (frame_of c.in-Some.frame.now)
    (c.in-Some.ensures ∙ first-Outside _ c.in-Outside.frames c.args.self.skipped c.in-Outside.is)

pub returns-in-None : goal.returns-in-None
returns-in-None c =
    base_value-none _ (c.in-None.ensures ∙ first-Outside _ c.in-Outside.frames c.args.self.skipped c.in-Outside.is)
