use Rattle.std.proofs.Common.{◌∙◌, sym}
use Rattle.handlebars_layers.proofs.Frames.{variable-none, variable-up}
use Rattle.handlebars_layers.proofs.lookup.variable_at.Goals as goal

pub returns-in-Some : goal.returns-in-Some
returns-in-Some c = c.variable.ensures ∙ sym (variable-up _ _ c.args.level c.args.name.now c.in-Some.ensures.frames)

pub returns-in-None : goal.returns-in-None
returns-in-None c = sym (variable-none _ c.args.level c.args.name.now c.in-None.ensures.frames)
