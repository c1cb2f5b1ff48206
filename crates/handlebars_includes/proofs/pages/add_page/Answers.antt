use Rattle.std.proofs.Common.{List, ℕ, sym, ◌∙◌, subst, arith}
use Rattle.handlebars_includes.specs.Graph.{MarksReached}
use Rattle.handlebars_includes.specs.Reaching.{AddsPage}
use Rattle.handlebars_includes.specs.View.{rows}
use Rattle.handlebars_includes.proofs.Paged.{page-skipped, page-taken}
use Rattle.handlebars_includes.proofs.Reached.{read-marked, read-unmarked}
use Rattle.handlebars_includes.proofs.pages.add_page.Goals as goal
use Rattle.handlebars_includes.proofs.pages.add_page.Goals.{else-index-len-via-then-index-len+else-not-index, else-index-len-via-else-index-len}

pub returns-in_ok-reach : goal.returns-in_ok-reach
returns-in_ok-reach c = λ r l.
    let g = rows c.args.graph.now in
    subst (λ (ps : List ℕ). AddsPage g c.args.index c.args.pages.now.items ps × MarksReached g ps c.reach.new.marks.items)
    (sym c.in_ok-push.ensures.items) (
      page-taken g c.args.index c.args.pages.now.items c.args.marks.now.items r l
          (read-unmarked c.args.marks.now.items c.args.index c.index.result.now c.index.ensures c.if-not-index.true),
      c.in_ok-reach.ensures c.args.pages.now.items r,
    )

pub returns-else-index-len : goal.returns-else-index-len
returns-else-index-len c =
    let marks = c.args.marks.now in
    let g = rows c.args.graph.now in
    elim c.else-index-len.branch [
      | else-index-len-via-then-index-len+else-not-index w ↦ λ r l. (
        page-skipped g c.args.index c.args.pages.now.items marks.items r l
            (λ m. read-marked marks.items c.args.index w.index.result.now m (sym w.index.ensures ∙ w.if-not-index.false)),
        r,
      )
      | else-index-len-via-else-index-len w ↦ λ r l. (
        page-skipped g c.args.index c.args.pages.now.items marks.items r l
            (λ m. absurd (omega (arith, m, w.if-index-len.false, c.len.ensures, marks.ok.0))),
        r,
      )
    ]
