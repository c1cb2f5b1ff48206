use Rattle.std.proofs.Common.{List, ℕ, sym, subst, take}
use Rattle.std.proofs.lemmas.List.{take_more}
use Rattle.handlebars_includes.specs.Graph.{MarksReached}
use Rattle.handlebars_includes.specs.View.{rows}
use Rattle.handlebars_includes.proofs.pages.reached.Goals as goal

pub starts-preserved : goal.starts-preserved
starts-preserved c =
    subst (λ (xs : List ℕ). MarksReached (rows c.args.graph.now) xs c.reach.new.marks.items)
    (sym (take_more c.args.starts.now c.starts.start-index 0 c.starts-test.true))
    (c.in_ok-reach.ensures (take c.starts.start-index c.args.starts.now) c.starts.invariant)
