use Rattle.std.proofs.Common.{arith, length}
use Rattle.handlebars_includes.specs.View.{graph_view}
use Rattle.hb_check.specs.Growing.{IsFound}
use Rattle.hb_check.proofs.Queue.{follows-closed}
use Rattle.hb_check.proofs.Ways.{grows-none, grows-then}
use Rattle.hb_check.proofs.chains.follow_all.Goals as goal

pub order-init : goal.order-init
order-init c = record {
  grows = grows-none (IsFound (graph_view c.args.includes.now)) c.args.ways.now.items;
  follows = λ first. first;
}

pub order-preserved : goal.order-preserved
order-preserved c = record {
  grows = grows-then (IsFound (graph_view c.args.includes.now)) c.args.ways.now.items c.order.ways.items c.follow_at.new.ways.items
      c.order.invariant.grows c.in_ok-follow_at.ensures.grows;
  follows = λ first. c.in_ok-follow_at.ensures.follows (length c.args.ways.now.items) (c.order.invariant.follows first);
}

pub returns-clause-closes : goal.returns-clause-closes
returns-clause-closes c = λ first.
    let follows = c.order.invariant.follows first in (
      follows-closed (graph_view c.args.includes.now) c.order.at (length c.args.ways.now.items) c.order.ways.items c.order.order.items follows
          (omega (arith, c.order-test.false)),
      follows.sized,
    )
