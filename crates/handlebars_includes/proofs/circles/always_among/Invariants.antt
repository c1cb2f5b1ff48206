use Rattle.std.proofs.Common.{◌≡◌, ◌++◌, drop, map}
use Rattle.handlebars_includes.specs.Circles.{always_among}
use Rattle.handlebars_includes.specs.View.{inclusion_view}
use Rattle.handlebars_includes.proofs.circles.always_among.Given as goal

abbrev pub invariant-inclusions : goal.invariant-inclusions
invariant-inclusions l =
    map inclusion_view l.always.items ++ always_among (map inclusion_view (drop l.inclusion-index l.inclusions))
    ≡ always_among (map inclusion_view l.inclusions)
