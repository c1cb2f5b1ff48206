use Rattle.std.proofs.Common.{List, ℕ, refl, subst, sym}
use Rattle.std.proofs.lemmas.List.{take_more}
use Rattle.hb_check.specs.Growing.{IsPage, Queues}
use Rattle.hb_check.proofs.Queue.{queues-none, queues-then}
use Rattle.hb_check.proofs.Ways.{grows-none, grows-then, grows-weaker}
use Rattle.hb_check.proofs.chains.visit_pages.Goals as goal

pub pages-init : goal.pages-init
pages-init c = record {
  grows = grows-none IsPage c.args.ways.now.items;
  queues = queues-none c.args.ways.now.items c.args.order.now.items;
}

pub pages-preserved : goal.pages-preserved
pages-preserved c = record {
  grows = grows-then IsPage c.args.ways.now.items c.pages.ways.items c.visit.new.ways.items c.pages.invariant.grows
      (grows-weaker _ IsPage c.pages.ways.items c.visit.new.ways.items (λ i w visits. visits.1) c.in_ok-visit.ensures.grows);
  queues = subst (λ (ts : List ℕ). Queues ts c.args.ways.now.items c.args.order.now.items c.visit.new.ways.items c.visit.new.order.items)
      (sym (take_more c.args.pages.now c.pages.page-index 0 c.pages-test.true))
      (queues-then _ _ c.args.ways.now.items c.pages.ways.items c.visit.new.ways.items c.args.order.now.items c.pages.order.items
      c.visit.new.order.items c.pages.invariant.queues (c.in_ok-visit.ensures.queues refl));
}
