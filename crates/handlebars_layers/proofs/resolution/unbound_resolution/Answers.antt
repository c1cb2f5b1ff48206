use Rattle.std.proofs.Common.{◌∙◌, sym}
use Rattle.handlebars_layers.proofs.Frames.{unbound-up-or-nearest}
use Rattle.handlebars_layers.proofs.resolution.unbound_resolution.Goals as goal

pub returns-clause-resolution : goal.returns-clause-resolution
returns-clause-resolution c = c.resolution_in.ensures.resolution ∙ unbound-up-or-nearest _ _ _ c.args.ups _
    (sym c.is_from_root.ensures ∙ c.if-is_from_root.false) c.requires c.up_or_nearest.ensures.frames
