use Rattle.std.proofs.Common.{◌++◌, codes, rules, sym}
use Rattle.std.proofs.Output.{has_written_append, has_written_of_eq}
use Rattle.handlebars_report.specs.Text.{problem_text}
use Rattle.handlebars_report.specs.View.{problem_view}
use Rattle.handlebars_report.proofs.Steps.{flat_map-map-take_more}
use Rattle.handlebars_report.proofs.report.ReportDisplay.fmt.Goals as goal

pub problems-preserved : goal.problems-preserved
problems-preserved g c = λ plain.
    let more = flat_map-map-take_more (λ p. problem_text p ++ codes "\n") problem_view c.deref-problem-items.result.now c.problems.problem-index
    c.problem-item.result c.problems-test.true c.problem-item.is in
    has_written_of_eq _ _ _ _ _ (sym more) (has_written_append _ _ _ _ _ _ (c.problems.invariant plain) (search rules))
