use Rattle.handlebars_includes.specs.Graph.{replaces}
use Rattle.handlebars_includes.proofs.Mentioning.{any-next}
use Rattle.handlebars_includes.proofs.includes.any_replaces.Goals as goal

pub mentions-preserved : goal.mentions-preserved
mentions-preserved c = λ names is.
    any-next (replaces names) c.args.mentions.now c.mentions.mention-index _ c.mentions.found c.replaces-found.result _ c.mentions-test.true
    (c.mentions.invariant names is) (c.replaces-found.ensures names is)
