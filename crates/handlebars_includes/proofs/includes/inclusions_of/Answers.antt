use Rattle.handlebars_includes.proofs.Mentioning.{inclusions-next}
use Rattle.handlebars_includes.proofs.includes.inclusions_of.Goals as goal

pub mentions-preserved : goal.mentions-preserved
mentions-preserved c = λ names is.
    inclusions-next names c.args.mentions.now c.mentions.mention-index _ c.mentions.inclusions.items c.add_inclusion.new.inclusions.items _
    c.mentions-test.true (c.mentions.invariant names is) (c.in_ok-add_inclusion.ensures names is)
