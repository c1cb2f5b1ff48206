use Rattle.std.proofs.Common.{map, take}
use Rattle.std.specs.Fmt.{HasWritten, IsPlainFormatter}
use Rattle.handlebars_report.specs.Report.{report_text}
use Rattle.handlebars_report.specs.View.{problem_view}
use Rattle.handlebars_report.proofs.report.ReportDisplay.fmt.Given as goal

abbrev pub invariant-problems : goal.invariant-problems
invariant-problems g l = IsPlainFormatter l.initial.f
    → HasWritten g.W.Write.write_str_gives l.initial.f (report_text (map problem_view (take l.problem-index l.problem-items))) l.f
