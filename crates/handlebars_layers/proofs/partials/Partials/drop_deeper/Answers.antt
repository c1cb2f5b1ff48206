use Rattle.std.proofs.Common.{◌∙◌, List, subst, sym}
use Rattle.handlebars_layers.specs.RisingDepths.{Rises, depths_of}
use Rattle.handlebars_layers.specs.declared.partials.OfFrame.{OfFrame}
use Rattle.handlebars_layers.proofs.Depths.{rises-kept}
use Rattle.handlebars_layers.proofs.partials.Partials.drop_deeper.Goals as goal

pub invariant_of-self : goal.invariant_of-self
invariant_of-self c = record {
  rising = subst (λ (fs : List OfFrame). Rises 1 (depths_of fs)) (sym (c.truncate.ensures.items ∙ c.count_to-count.ensures))
      (rises-kept c.args.self.now.all.items c.args.depth c.args.self.now.rising);
}
