use Rattle.std.proofs.Common.{List, ℕ, map, ap, sym, ◌∙◌, subst, arith}
use Rattle.std.proofs.lemmas.List.{length-map}
use Rattle.handlebars_includes.specs.Graph.{targets}
use Rattle.handlebars_includes.specs.Reaching.{MarksOthers}
use Rattle.handlebars_includes.specs.View.{inclusion_view, row_view, rows}
use Rattle.handlebars_includes.specs.declared.includes.Inclusion.{Inclusion}
use Rattle.handlebars_includes.proofs.Paged.{including-all, including-more, including-none}
use Rattle.handlebars_includes.proofs.Rows.{targets-at}
use Rattle.handlebars_includes.proofs.pages.included.Goals as goal

pub graph-init : goal.graph-init
graph-init c = including-none _ _ c.in_ok-marks.ensures

pub graph-preserved : goal.graph-preserved
graph-preserved c =
    let graph = c.args.graph.now in
    including-more (rows graph) c.graph.index c.graph.marks.items c.mark_others.new.marks.items c.graph.invariant
    (subst (λ (ts : List ℕ). MarksOthers c.graph.index ts c.graph.marks.items c.mark_others.new.marks.items)
    (ap (λ (xs : List Inclusion). targets (map inclusion_view xs)) c.deref.ensures.value
    ∙ sym (targets-at graph c.graph.index c.index-graph-index.result c.graph-test.true c.index-graph-index.is)) c.mark_others.ensures)

pub returns : goal.returns
returns c =
    let graph = c.args.graph.now in
    let sized = length-map graph row_view in
    including-all (rows graph) c.graph.index c.graph.marks.items (omega (arith, c.graph-test.false, sized)) c.graph.invariant
