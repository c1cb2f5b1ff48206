use Rattle.std.proofs.Common.{◌<◌, length, map, take}
use Rattle.handlebars_includes.specs.Circles.{CircleTags}
use Rattle.handlebars_includes.specs.View.{AddsTags, inclusion_view, rows}
use Rattle.handlebars_includes.proofs.circles.add_circles.Given as goal

abbrev pub invariant-inclusions : goal.invariant-inclusions
invariant-inclusions l = l.template < length (rows l.graph)
    → AddsTags (CircleTags (rows l.graph) l.template (map inclusion_view (take l.inclusion-index l.inclusions))) l.initial.found.items
    l.found.items
