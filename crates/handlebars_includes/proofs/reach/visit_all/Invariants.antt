use Rattle.std.proofs.Common.{map, take}
use Rattle.handlebars_includes.specs.Graph.{targets}
use Rattle.handlebars_includes.specs.Reaching.{Extends}
use Rattle.handlebars_includes.specs.View.{inclusion_view}
use Rattle.handlebars_includes.proofs.reach.visit_all.Given as goal

abbrev pub invariant-inclusions : goal.invariant-inclusions
invariant-inclusions l =
    Extends (targets (map inclusion_view (take l.inclusion-index l.inclusions))) l.initial.marks.items l.initial.pending.items
    l.marks.items l.pending.items
