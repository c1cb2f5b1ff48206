use Rattle.std.proofs.Common.{List, ℕ, [], ◌∷◌, true, sym, ◌∙◌, subst, arith, slice_set}
use Rattle.handlebars_includes.specs.Reaching.{Extends}
use Rattle.handlebars_includes.proofs.Reached.{extends-open, extends-seen, read-marked, read-unmarked}
use Rattle.handlebars_includes.proofs.reach.visit.Goals as goal
use Rattle.handlebars_includes.proofs.reach.visit.Goals.{else-at-len-via-then-at-len+else-not-index, else-at-len-via-else-at-len}

pub returns-in_ok-push : goal.returns-in_ok-push
returns-in_ok-push c =
    let marks = c.args.marks.now in
    subst (λ (ps : List ℕ). Extends (c.args.at ∷ []) marks.items c.args.pending.now.items (slice_set marks.items c.args.at true) ps)
    (sym c.in_ok-push.ensures.items)
    (extends-open c.args.at marks.items c.args.pending.now.items (omega (arith, c.if-at-len.true, c.len.ensures, marks.ok.0))
    (read-unmarked marks.items c.args.at c.index.result.now c.index.ensures c.if-not-index.true))

pub returns-else-at-len : goal.returns-else-at-len
returns-else-at-len c =
    let marks = c.args.marks.now in
    elim c.else-at-len.branch [
      | else-at-len-via-then-at-len+else-not-index w ↦
          extends-seen c.args.at marks.items c.args.pending.now.items
          (λ l. read-marked marks.items c.args.at w.index.result.now l (sym w.index.ensures ∙ w.if-not-index.false))
      | else-at-len-via-else-at-len w ↦
          extends-seen c.args.at marks.items c.args.pending.now.items
          (λ l. absurd (omega (arith, l, w.if-at-len.false, c.len.ensures, marks.ok.0)))
    ]
