use Rattle.std.proofs.Common.{List, ap, refl, subst, ◌∙◌, map}
use Rattle.std.proofs.lemmas.List.{take_all}
use Rattle.handlebars_includes.specs.Graph.{targets}
use Rattle.handlebars_includes.specs.Graph as graph
use Rattle.handlebars_includes.specs.View.{graph_view, inclusion_view}
use Rattle.hb_check.specs.Growing.{IsFound, Queues}
use Rattle.hb_check.proofs.Queue.{queues-next, queues-none}
use Rattle.hb_check.proofs.Ways.{follow-next, grows-none}
use Rattle.hb_check.proofs.chains.follow.Goals as goal

pub tags-init : goal.tags-init
tags-init c = record {
  grows = grows-none (IsFound (graph_view c.args.includes.now)) c.args.ways.now.items;
  queues = queues-none c.args.ways.now.items c.args.order.now.items;
}

pub tags-preserved : goal.tags-preserved
tags-preserved c = record {
  grows = follow-next (graph_view c.args.includes.now) c.args.template c.inclusions-inclusions.result.now c.tags.inclusion-index _
      c.args.ways.now.items c.tags.ways.items c.visit.new.ways.items c.inclusions-inclusions.ensures c.tags-test.true
      c.tags.invariant.grows c.in_ok-visit.ensures.grows;
  queues = queues-next c.inclusions-inclusions.result.now c.tags.inclusion-index _ c.args.ways.now.items c.tags.ways.items
      c.visit.new.ways.items c.args.order.now.items c.tags.order.items c.visit.new.order.items c.tags-test.true c.tags.invariant.queues
      (c.in_ok-visit.ensures.queues refl);
}

pub returns-clause-queues : goal.returns-clause-queues
returns-clause-queues c =
    subst (λ (xs : List graph.Inclusion). Queues (targets xs) c.args.ways.now.items c.args.order.now.items c.tags.ways.items c.tags.order.items)
    (ap (map inclusion_view) (take_all c.tags.inclusion-index c.inclusions-inclusions.result.now c.tags-test.false) ∙ c.inclusions-inclusions.ensures)
    c.tags.invariant.queues
