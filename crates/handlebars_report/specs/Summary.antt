-- How many problems there are, and what is printed of that.
use Rattle.std.specs.Prelude.{ℕ, ◌==◌, if◌then◌else◌, Bool, true, false, List, ◌++◌, codes, count_by, decimal}
use Rattle.handlebars_report.specs.declared.problem.Severity.{Severity}
use Rattle.handlebars_report.specs.declared.problem.Severity.TheVariants.{Error, Warning}
use Rattle.handlebars_report.specs.declared.summary.Summary.{Summary}
use Rattle.handlebars_report.specs.Position.{Text}
use Rattle.handlebars_report.specs.Problem.{Problem}

abbrev pub is_severity : Severity → Severity → Bool
is_severity Error Error = true
is_severity Warning Warning = true
is_severity _ _ = false

-- how many problems are this bad
abbrev pub count_of : Severity → List Problem → ℕ
count_of severity problems = count_by (λ p. is_severity severity p.severity) problems

abbrev pub summary_of : List Problem → Summary
summary_of problems = record { errors = count_of Error problems; warnings = count_of Warning problems }

-- `1 error`, `2 errors`
abbrev pub amount : ℕ → Text → Text
amount n what = if n == 1 then decimal n ++ codes " " ++ what else decimal n ++ codes " " ++ what ++ codes "s"

-- `2 errors, 1 warning`: no word of what there is none of
abbrev pub summary_text : Summary → Text
summary_text s =
    if s.errors == 0 then (if s.warnings == 0 then codes "no problems" else amount s.warnings (codes "warning"))
    else (if s.warnings == 0 then amount s.errors (codes "error")
    else amount s.errors (codes "error") ++ codes ", " ++ amount s.warnings (codes "warning"))
