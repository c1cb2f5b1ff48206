use Rattle.std.proofs.Common.{ℕ, ◌<◌, arith, length, subst, ◌∙◌}
use Rattle.std.proofs.lemmas.Grind.{get_or_default_zero}
use Rattle.std.proofs.lemmas.Result.{on_ok_weaker}
use Rattle.handlebars_includes.specs.Graph.{targets_at}
use Rattle.handlebars_includes.specs.View.{graph_view}
use Rattle.hb_check.specs.Growing.{Queues}
use Rattle.hb_check.proofs.Queue.{follows-done, follows-one}
use Rattle.hb_check.proofs.chains.follow_at.Goals as goal

pub returns-then-at-len-clause-follows : goal.returns-then-at-len-clause-follows
returns-then-at-len-clause-follows c =
    let g = graph_view c.args.includes.now in
    let order = c.args.order.now in
    let within : c.args.at < length order.items = omega (arith, c.if-at-len.true, c.len.ensures, order.ok.0) in
    on_ok_weaker c.follow.result
    (λ queues. λ size follows. follows-one g c.args.at size c.args.ways.now.items c.follow.new.ways.items order.items c.follow.new.order.items
    follows within
    (subst (λ (t : ℕ). Queues (targets_at g t) c.args.ways.now.items order.items c.follow.new.ways.items c.follow.new.order.items)
    (c.index.ensures ∙ get_or_default_zero order.items c.args.at c.index.result.now within) queues))
    c.follow.ensures.queues

pub returns-else-at-len-clause-follows : goal.returns-else-at-len-clause-follows
returns-else-at-len-clause-follows c = λ size follows.
    let order = c.args.order.now in
    follows-done (graph_view c.args.includes.now) c.args.at size c.args.ways.now.items order.items follows
    (omega (arith, c.if-at-len.false, c.len.ensures, order.ok.0))
