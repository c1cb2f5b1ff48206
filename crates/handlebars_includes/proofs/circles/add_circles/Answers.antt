use Rattle.std.proofs.Common.{[], sym}
use Rattle.std.proofs.lemmas.List.{append-nil}
use Rattle.handlebars_includes.specs.Circles.{no_tags}
use Rattle.handlebars_includes.specs.View.{rows}
use Rattle.handlebars_includes.proofs.Circling.{tags-next}
use Rattle.handlebars_includes.proofs.circles.add_circles.Goals as goal

pub inclusions-init : goal.inclusions-init
inclusions-init c = λ within. ([], no_tags, sym (append-nil _))

pub inclusions-preserved : goal.inclusions-preserved
inclusions-preserved c = λ within.
    tags-next (rows c.args.graph.now) c.args.template c.args.inclusions.now c.inclusions.inclusion-index _ c.args.found.now.items
    c.inclusions.found.items c.add_circle.new.found.items c.inclusions-test.true (c.inclusions.invariant within)
    (c.in_ok-add_circle.ensures within)
