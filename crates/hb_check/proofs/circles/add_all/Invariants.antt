use Rattle.std.proofs.Common.{map, take}
use Rattle.std.specs.List.{AllZip}
use Rattle.handlebars_includes.specs.View.{name_of, tag_of}
use Rattle.hb_check.specs.Several.{ReportsCircle}
use Rattle.hb_check.specs.Reported.{AddsSome}
use Rattle.hb_check.proofs.circles.add_all.Given as goal

abbrev pub invariant-circles : goal.invariant-circles
invariant-circles l =
    AddsSome (AllZip (ReportsCircle l.sources (map name_of l.templates)) (map tag_of (take l.circle-index l.circles))) l.fn.problems.items
    l.problems.items
