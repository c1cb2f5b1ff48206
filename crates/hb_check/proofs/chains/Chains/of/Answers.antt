use Rattle.std.proofs.Common.{List, ℕ, [], ◌++◌, ◌<◌, subst, sym, ◌∙◌}
use Rattle.std.specs.List.{Contains}
use Rattle.handlebars_includes.specs.View.{graph_view}
use Rattle.hb_check.specs.Growing.{IsPage, Queues}
use Rattle.hb_check.proofs.Queue.{follows-first, pages-stay, queues-then}
use Rattle.hb_check.proofs.Ways.{grows-then, ways-from}
use Rattle.hb_check.proofs.chains.Chains.of.Goals as goal

pub returns : goal.returns
returns c =
    let g = graph_view c.args.includes.now in
    let a = c.in_ok-ways.ways.items in
    let b = c.visit_pages-2.new.ways.items in
    let all = c.follow_all.new.ways.items in
    let p = c.visit_pages-2.new.order.items in
    let ts = c.deref.result.now ++ c.deref-2.result.now in
    let none = c.in_ok-ways.ensures in
    let pages = grows-then IsPage a c.visit_pages.new.ways.items b c.in_ok-visit_pages.ensures.grows c.in_ok-visit_pages-2.ensures.grows in
    let queues : Queues ts a [] b p =
    queues-then c.deref.result.now c.deref-2.result.now a c.visit_pages.new.ways.items b [] c.visit_pages.new.order.items p
    (subst (λ (o : List ℕ). Queues c.deref.result.now a o c.visit_pages.new.ways.items c.visit_pages.new.order.items)
    c.new-order.ensures.items c.in_ok-visit_pages.ensures.queues)
    c.in_ok-visit_pages-2.ensures.queues in
    let (closed, sized) = c.in_ok-follow_all.ensures.closes (follows-first g ts a b p none queues) in
    record {
      indices = c.in_ok-others.others.items;
      pages = c.in_ok-others.ensures;
      starts = λ i has within. pages-stay g ts a b all p none queues pages c.in_ok-follow_all.ensures.grows i
          (subst (λ (ns : List ℕ). Contains (c.deref.result.now ++ ns) i) (sym c.deref-2.ensures.value)
          (subst (λ (ns : List ℕ). Contains (ns ++ c.in_ok-others.others.items) i) (sym (c.deref.ensures.value ∙ c.in_ok-named.ensures)) has))
          (subst (λ (n : ℕ). i < n) sized within);
      closed = closed;
      inclusions = ways-from g a b all none pages c.in_ok-follow_all.ensures.grows;
    }
