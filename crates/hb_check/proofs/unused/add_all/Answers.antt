use Rattle.std.proofs.Common.{get_or, map, subst, take}
use Rattle.std.proofs.lemmas.List.{take_more}
use Rattle.handlebars_includes.specs.View.{name_of}
use Rattle.hb_check.specs.Several.{IsUnused, ReportsUnusedAt}
use Rattle.hb_check.specs.Reported.{AddsSome, One}
use Rattle.hb_check.proofs.Reports.{adds-next}
use Rattle.hb_check.proofs.unused.add_all.Goals as goal

pub unused-preserved : goal.unused-preserved
unused-preserved c =
    adds-next (ReportsUnusedAt c.args.sources.now (map name_of c.args.templates.now)) (take c.unused.index-index c.args.unused.now) _
    (get_or c.args.unused.now c.unused.index-index 0) c.args.problems.now.items c.unused.problems.items _
    (take_more c.args.unused.now c.unused.index-index 0 c.unused-test.true) c.unused.invariant
    (subst (λ n. AddsSome (One (IsUnused c.args.sources.now n)) c.unused.problems.items c.add_one.new.problems.items)
    c.name_at.ensures c.in_ok-add_one.ensures)
