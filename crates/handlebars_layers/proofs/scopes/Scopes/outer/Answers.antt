use Rattle.std.proofs.Common.{◌∙◌}
use Rattle.handlebars_layers.proofs.Layers.{end-Outside, outer-Outside}
use Rattle.handlebars_layers.proofs.scopes.Scopes.outer.Goals as goal

pub returns-then-self-len-clause-frames : goal.returns-then-self-len-clause-frames
returns-then-self-len-clause-frames c =
    outer-Outside _ c.in-Outside.frames c.args.self.skipped c.len.result c.in-Outside.is
    (c.len.ensures ∙ c.in-Outside.frames.now.ok.0) c.if-self-len.true

pub returns-else-self-len-clause-frames : goal.returns-else-self-len-clause-frames
returns-else-self-len-clause-frames c =
    end-Outside _ c.in-Outside.frames c.args.self.skipped c.len.result c.in-Outside.is
    (c.len.ensures ∙ c.in-Outside.frames.now.ok.0) c.if-self-len.false
