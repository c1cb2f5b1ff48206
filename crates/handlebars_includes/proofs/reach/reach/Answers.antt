use Rattle.std.proofs.Common.{List, ℕ, [], ◌∷◌, ◌++◌, subst, arith}
use Rattle.std.proofs.lemmas.List.{nil_from_length}
use Rattle.handlebars_includes.specs.Reaching.{Extends}
use Rattle.handlebars_includes.specs.View.{rows}
use Rattle.handlebars_includes.proofs.Reached.{begins, goes, ends}
use Rattle.handlebars_includes.proofs.reach.reach.Goals as goal

pub pending-init : goal.pending-init
pending-init c = λ starts r.
    begins (rows c.args.graph.now) starts c.args.start c.args.marks.now.items c.visit.new.marks.items c.visit.new.pending.items r
    (subst (λ (ps : List ℕ). Extends (c.args.start ∷ []) c.args.marks.now.items ps c.visit.new.marks.items c.visit.new.pending.items)
    c.new-pending.ensures.items c.in_ok-visit.ensures)

pub pending-preserved : goal.pending-preserved
pending-preserved c = λ starts r.
    goes (rows c.args.graph.now) (starts ++ c.args.start ∷ []) c.in-Some.at c.pending.marks.items c.follow.new.marks.items
    c.pending.pending.items c.pop.new.self.items c.follow.new.pending.items c.in-Some.ensures.items
    (c.pending.invariant starts r) c.in_ok-follow.ensures

pub returns : goal.returns
returns c = λ starts r.
    ends (rows c.args.graph.now) (starts ++ c.args.start ∷ []) c.pending.marks.items c.pending.pending.items
    (nil_from_length c.pending.pending.items (omega (arith, c.pending.pending.ok.0, c.in_default.ensures.cases.0)))
    (c.pending.invariant starts r)
