use Rattle.std.proofs.Common.{◌∙◌}
use Rattle.handlebars_layers.proofs.Layers.{some-Outside}
use Rattle.handlebars_layers.proofs.scopes.Scopes.has_frame.Goals as goal

pub returns-in-Outside : goal.returns-in-Outside
returns-in-Outside c = some-Outside _ c.in-Outside.frames c.args.self.skipped c.len.result c.in-Outside.is
    (c.len.ensures ∙ c.in-Outside.frames.now.ok.0)
