use Rattle.std.proofs.Common.{length}
use Rattle.handlebars_includes.specs.View.{graph_view}
use Rattle.hb_check.specs.Growing.{Follows, Grows, IsFound}
use Rattle.hb_check.proofs.chains.follow_all.Given as goal

abbrev pub invariant-order : goal.invariant-order
invariant-order l = record {
  grows : Grows (IsFound (graph_view l.includes)) l.initial.ways.items l.ways.items;
  follows : Follows (graph_view l.includes) 0 (length l.initial.ways.items) l.initial.ways.items l.initial.order.items
      → Follows (graph_view l.includes) l.at (length l.initial.ways.items) l.ways.items l.order.items;
}
