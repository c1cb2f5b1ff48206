use Rattle.std.proofs.Common.{◌≡◌, map, string_bytes, take}
use Rattle.handlebars_report.specs.Json.{json_lines}
use Rattle.handlebars_report.specs.View.{problem_view}
use Rattle.handlebars_report.proofs.report.Report.json.Given as goal

abbrev pub invariant-problems : goal.invariant-problems
invariant-problems l = string_bytes l.lines ≡ json_lines (map problem_view (take l.problem-index l.problem-items))
