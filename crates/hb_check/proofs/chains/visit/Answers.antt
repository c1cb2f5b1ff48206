use Rattle.std.proofs.Common.{List, ℕ, [], ◌∷◌, ap, arith, get_or, slice_set, subst, sym, ◌∙◌}
use Rattle.std.proofs.lemmas.Option.{slice_get-get_or}
use Rattle.hb_check.specs.Chains.{is_unreached}
use Rattle.hb_check.specs.Growing.{Queues}
use Rattle.hb_check.proofs.Queue.{queues-seen, queues-visit}
use Rattle.hb_check.proofs.chains.visit.Goals as goal
use Rattle.hb_check.proofs.chains.visit.Goals.{else-index-len-via-then-index-len+else-is_unreached, else-index-len-via-else-index-len}

pub returns-in_ok-push-clause-queues : goal.returns-in_ok-push-clause-queues
returns-in_ok-push-clause-queues c = λ reached.
    let ways = c.args.ways.now in
    subst (λ (p : List ℕ). Queues (c.args.index ∷ []) ways.items c.args.order.now.items (slice_set ways.items c.args.index c.args.way) p)
    (sym c.in_ok-push.ensures.items)
    (queues-visit c.args.index c.args.way c.index.result.now ways.items c.args.order.now.items reached
    (omega (arith, c.if-index-len.true, c.len.ensures, ways.ok.0))
    (ap is_unreached (sym c.index.ensures) ∙ sym c.if-is_unreached.ensures))

pub returns-else-index-len-clause-queues : goal.returns-else-index-len-clause-queues
returns-else-index-len-clause-queues c =
    let ways = c.args.ways.now in
    elim c.else-index-len.branch [
      | else-index-len-via-then-index-len+else-is_unreached w ↦ λ reached.
          queues-seen c.args.index ways.items c.args.order.now.items
          (λ l. (
            get_or ways.items c.args.index w.index.result.now,
            slice_get-get_or ways.items c.args.index w.index.result.now l,
            ap is_unreached (sym w.index.ensures) ∙ sym w.if-is_unreached.ensures,
          ))
      | else-index-len-via-else-index-len w ↦ λ reached.
          queues-seen c.args.index ways.items c.args.order.now.items
          (λ l. absurd (omega (arith, l, w.if-index-len.false, c.len.ensures, ways.ok.0)))
    ]
