use Rattle.std.proofs.Common.{map, take}
use Rattle.handlebars_includes.specs.Graph.{targets}
use Rattle.handlebars_includes.specs.Reaching.{MarksOthers}
use Rattle.handlebars_includes.specs.View.{inclusion_view}
use Rattle.handlebars_includes.proofs.pages.mark_others.Given as goal

abbrev pub invariant-inclusions : goal.invariant-inclusions
invariant-inclusions l =
    MarksOthers l.index (targets (map inclusion_view (take l.inclusion-index l.inclusions))) l.initial.marks.items l.marks.items
