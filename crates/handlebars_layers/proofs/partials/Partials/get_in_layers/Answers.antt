use Rattle.std.proofs.Common.{◌∙◌, ◌-◌, arith, length, refl, sym}
use Rattle.std.proofs.lemmas.List.{length-take-le}
use Rattle.handlebars_layers.proofs.Depths.{last-split, rises-rest}
use Rattle.handlebars_layers.proofs.Nearest.{nearest-around, nearest-last, nearest-none, nearest-past}
use Rattle.handlebars_layers.proofs.partials.Partials.get_in_layers.Goals as goal

pub returns-in-Some : goal.returns-in-Some
returns-in-Some c =
    let left = c.loop-left.left.now in
    let split = last-split left (length left) c.last-item.result refl c.in-len1-up.len_at_least c.last-item.is in
    sym (nearest-last left _ c.last-item.result split c.loop-left.invariant.rising c.args.depth c.args.name.now _
    c.if-last-depth.true (sym c.in-Some.ensures))
    ∙ c.loop-left.invariant.nearest

pub loop-left-preserved-in_default-get : goal.loop-left-preserved-in_default-get
loop-left-preserved-in_default-get c =
    let left = c.loop-left.left.now in
    let split = last-split left (length left) c.last-item.result refl c.in-len1-up.len_at_least c.last-item.is in
    record {
      nearest =
          nearest-past left _ c.last-item.result split c.loop-left.invariant.rising c.args.depth c.args.name.now
          (sym c.in_default-get.ensures)
          ∙ c.loop-left.invariant.nearest;
      rising = rises-rest left _ c.last-item.result split c.loop-left.invariant.rising;
      within = omega (arith, length-take-le (length left - 1) left (omega arith));
    }

pub loop-left-preserved : goal.loop-left-preserved
loop-left-preserved c =
    let left = c.loop-left.left.now in
    let split = last-split left (length left) c.last-item.result refl c.in-len1-up.len_at_least c.last-item.is in
    record {
      nearest =
          nearest-around left _ c.last-item.result split c.loop-left.invariant.rising c.args.depth c.args.name.now
          c.if-last-depth.false
          ∙ c.loop-left.invariant.nearest;
      rising = rises-rest left _ c.last-item.result split c.loop-left.invariant.rising;
      within = omega (arith, length-take-le (length left - 1) left (omega arith));
    }

pub returns : goal.returns
returns c =
    sym (nearest-none c.loop-left.left.now c.args.depth c.args.name.now c.in_default.len_below) ∙ c.loop-left.invariant.nearest
