-- Reports: problems in order, and what is printed of them.
use Rattle.std.specs.Prelude.{List, ◌++◌, codes, flat_map, map}
use Rattle.handlebars_report.specs.declared.report.Report.{Report}
use Rattle.handlebars_report.specs.Position.{Text}
use Rattle.handlebars_report.specs.Problem.{Problem}
use Rattle.handlebars_report.specs.Text.{problem_text}
use Rattle.handlebars_report.specs.View.{problem_view}

-- the problems of a report
abbrev pub report_view : Report → List Problem
report_view r = map problem_view r.problems.items

-- each problem, and an empty line after it
abbrev pub report_text : List Problem → Text
report_text problems = flat_map (λ p. problem_text p ++ codes "\n") problems
