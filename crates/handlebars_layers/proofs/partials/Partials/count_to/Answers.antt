use Rattle.std.proofs.Common.{◌∙◌, ◌-◌, arith, length, refl, sym}
use Rattle.handlebars_layers.proofs.Depths.{prefix-shorter, kept-rest, kept-whole, last-split, rises-rest}
use Rattle.handlebars_layers.proofs.partials.Partials.count_to.Goals as goal

pub returns-then-last-depth : goal.returns-then-last-depth
returns-then-last-depth c =
    let left = c.loop-left.left.now in
    let split = last-split left (length left) c.last-item.result refl c.in-len1-up.len_at_least c.last-item.is in
    c.loop-left.invariant.prefix
    ∙ sym (kept-whole left _ c.last-item.result split c.loop-left.invariant.rising c.args.depth c.if-last-depth.true)
    ∙ c.loop-left.invariant.kept

pub loop-left-preserved : goal.loop-left-preserved
loop-left-preserved c =
    let left = c.loop-left.left.now in
    let split = last-split left (length left) c.last-item.result refl c.in-len1-up.len_at_least c.last-item.is in
    record {
      prefix = prefix-shorter c.args.self.now.all.items left (length left - 1) c.loop-left.invariant.prefix (omega arith);
      kept =
          kept-rest left _ c.last-item.result split c.loop-left.invariant.rising c.args.depth c.if-last-depth.false
          ∙ c.loop-left.invariant.kept;
      rising = rises-rest left _ c.last-item.result split c.loop-left.invariant.rising;
    }
