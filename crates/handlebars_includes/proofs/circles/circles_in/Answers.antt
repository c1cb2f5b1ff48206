use Rattle.std.proofs.Common.{List, map, sym, subst, arith}
use Rattle.std.proofs.lemmas.List.{length-map}
use Rattle.handlebars_includes.specs.Circles.{CircleTags, CirclesBefore, no_templates}
use Rattle.handlebars_includes.specs.View.{AddsTags, inclusion_view, row_view, rows, tag_of}
use Rattle.handlebars_includes.specs.declared.circles.Circle.{Circle}
use Rattle.handlebars_includes.specs.declared.includes.Inclusion.{Inclusion}
use Rattle.handlebars_includes.proofs.Circling.{templates-next}
use Rattle.handlebars_includes.proofs.circles.circles_in.Goals as goal

pub graph-init : goal.graph-init
graph-init c =
    subst (λ (xs : List Circle). CirclesBefore (rows c.args.graph.now) 0 (map tag_of xs)) (sym c.new-found.ensures.items) no_templates

pub graph-preserved : goal.graph-preserved
graph-preserved c =
    let graph = c.args.graph.now in
    let sized = length-map graph row_view in
    templates-next graph c.graph.template c.index-graph-template.result c.graph.found.items c.add_circles.new.found.items
    c.graph-test.true c.index-graph-template.is c.graph.invariant
    (subst (λ (xs : List Inclusion). AddsTags (CircleTags (rows graph) c.graph.template (map inclusion_view xs)) c.graph.found.items c.add_circles.new.found.items)
    c.deref.ensures.value (c.in_ok-add_circles.ensures (omega (arith, c.graph-test.true, sized))))
