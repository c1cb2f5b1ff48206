use Rattle.std.proofs.Common.{arith}
use Rattle.std.proofs.lemmas.List.{length-map}
use Rattle.handlebars_includes.specs.Graph.{done}
use Rattle.handlebars_includes.specs.View.{row_view}
use Rattle.handlebars_includes.proofs.pages.add_pages.Goals as goal

pub templates-init : goal.templates-init
templates-init c = λ r. (r, λ all x. x)

pub templates-preserved : goal.templates-preserved
templates-preserved c = λ r.
    let before = c.templates.invariant r in
    let sized = length-map c.args.graph.now row_view in
    let here = c.in_ok-add_page.ensures before.0 (omega (arith, c.templates-test.true, sized)) in
    (here.1, λ all x. before.1 all (here.0 all x))

pub returns : goal.returns
returns c = λ r.
    let sized = length-map c.args.graph.now row_view in
    (c.templates.invariant r).1 c.templates.pages.items
    (done (omega (arith, c.templates-test.false, c.templates.auto.index-end, sized)))
