use Rattle.std.proofs.Common.{map, take}
use Rattle.std.specs.List.{AllZip}
use Rattle.handlebars_includes.specs.View.{name_of}
use Rattle.hb_check.specs.Several.{ReportsUnusedAt}
use Rattle.hb_check.specs.Reported.{AddsSome}
use Rattle.hb_check.proofs.unused.add_all.Given as goal

abbrev pub invariant-unused : goal.invariant-unused
invariant-unused l =
    AddsSome (AllZip (ReportsUnusedAt l.sources (map name_of l.templates)) (take l.index-index l.unused)) l.fn.problems.items l.problems.items
