use Rattle.std.proofs.Common.{ap, ◌∙◌, map, false}
use Rattle.std.proofs.lemmas.List.{length-map, take_all}
use Rattle.handlebars_includes.specs.View.{row_view, rows}
use Rattle.handlebars_includes.proofs.Reached.{no-marks}
use Rattle.handlebars_includes.proofs.reach.no_marks.Goals as goal

pub returns : goal.returns
returns c =
    no-marks (rows c.args.graph.now) c.args.graph.now c.graph.marks.items (length-map c.args.graph.now row_view)
    (c.graph.invariant ∙ ap (map (λ _. false)) (take_all c.graph._inclusions-index c.args.graph.now c.graph-test.false))
