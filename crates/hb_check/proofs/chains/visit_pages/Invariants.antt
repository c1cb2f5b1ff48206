use Rattle.std.proofs.Common.{take}
use Rattle.hb_check.specs.Growing.{Grows, IsPage, Queues}
use Rattle.hb_check.proofs.chains.visit_pages.Given as goal

abbrev pub invariant-pages : goal.invariant-pages
invariant-pages l = record {
  grows : Grows IsPage l.initial.ways.items l.ways.items;
  queues : Queues (take l.page-index l.pages) l.initial.ways.items l.initial.order.items l.ways.items l.order.items;
}
