use Rattle.std.proofs.Common.{◌∙◌, ap, sym}
use Rattle.handlebars_scope.specs.Resolve.{value_at}
use Rattle.handlebars_scope.specs.ScopeView.{frame_of}
use Rattle.handlebars_layers.specs.Destination.{given_in}
use Rattle.handlebars_layers.proofs.Frames.{names-none, names-of}
use Rattle.handlebars_layers.proofs.Layers.{first-Outside}
use Rattle.handlebars_layers.proofs.scopes.Scopes.base.Goals as goal

pub returns-in-Some : goal.returns-in-Some
returns-in-Some c = c.base_in.ensures ∙ ap (value_at (given_in c.args.self)) (names-of _ (frame_of c.in-Some.frame.now)
    (c.in-Some.ensures ∙ first-Outside _ c.in-Outside.frames c.args.self.skipped c.in-Outside.is))

pub returns-in-None : goal.returns-in-None
returns-in-None c = sym (ap (value_at (given_in c.args.self)) (names-none _
    (c.in-None.ensures ∙ first-Outside _ c.in-Outside.frames c.args.self.skipped c.in-Outside.is)))
