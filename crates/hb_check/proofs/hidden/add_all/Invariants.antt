use Rattle.std.proofs.Common.{map, take}
use Rattle.std.specs.List.{AllZip}
use Rattle.handlebars_includes.specs.FrameView.{hidden_of}
use Rattle.handlebars_includes.specs.View.{name_of}
use Rattle.hb_check.specs.Several.{ReportsHidden}
use Rattle.hb_check.specs.Reported.{AddsSome}
use Rattle.hb_check.proofs.hidden.add_all.Given as goal

abbrev pub invariant-hidden : goal.invariant-hidden
invariant-hidden l =
    AddsSome (AllZip (ReportsHidden l.sources (map name_of l.templates)) (map hidden_of (take l.name-index l.hidden))) l.fn.problems.items
    l.problems.items
