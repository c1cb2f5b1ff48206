use Rattle.std.proofs.Common.{true, drop}
use Rattle.serde_json.specs.View.{items_view}
use Rattle.handlebars_base.specs.Values.{rendered_items}
use Rattle.handlebars_base.specs.Shown.{escaped_if}
use Rattle.handlebars_base.proofs.Writes.{AllBut}
use Rattle.handlebars_base.proofs.json.value.write.+write.Given as goal

abbrev pub invariant-write_items-loop-item : goal.invariant-write_items-loop-item
invariant-write_items-loop-item g l =
    AllBut (escaped_if l.escapes (rendered_items l.first (items_view (drop l.item-index l.item-items)))) (escaped_if l.escapes (rendered_items true (items_view l.item-items)))
    (g.O.Output.held l.initial.out) (g.O.Output.held l.out)
