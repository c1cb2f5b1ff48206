use Rattle.std.proofs.Common.{map, take}
use Rattle.handlebars_includes.specs.Graph.{targets}
use Rattle.handlebars_includes.specs.View.{graph_view, inclusion_view}
use Rattle.hb_check.specs.Growing.{Grows, IsFound, Queues}
use Rattle.hb_check.proofs.chains.follow.Given as goal

abbrev pub invariant-tags : goal.invariant-tags
invariant-tags l = record {
  grows : Grows (IsFound (graph_view l.includes)) l.initial.ways.items l.ways.items;
  queues : Queues (targets (map inclusion_view (take l.inclusion-index l.inclusions))) l.initial.ways.items l.initial.order.items
      l.ways.items l.order.items;
}
