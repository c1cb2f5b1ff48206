use Rattle.std.proofs.Common.{◌∙◌, ap}
use Rattle.handlebars_layers.specs.PartialsByDepth.{ends_at}
use Rattle.handlebars_layers.proofs.Settings.{ends-get}
use Rattle.handlebars_layers.proofs.partials.Partials.has_last.Goals as goal

pub returns-in-Some : goal.returns-in-Some
returns-in-Some c =
    ends-get c.args.depth c.deref.result.now c.in-Some.last.now c.in-Some.ensures.value
    ∙ ap (ends_at c.args.depth) c.deref.ensures.value
