-- What is found in HTML, and how it is reported.
use Rattle.std.specs.Prelude.{◌≡◌, Bool, true, false, List, [], ◌++◌}
use Rattle.std.specs.List.{AllZip}
use Rattle.handlebars_base.specs.Bytes.{Text}
use Rattle.handlebars_helpers.specs.UserAnswers.{Registrations, UserAnswers}
use Rattle.handlebars_html.specs.Faults.{Fault}
use Rattle.handlebars_html.specs.Search.{Verdict}
use Rattle.handlebars_report.specs.Problem.{Problem}
use Rattle.handlebars_report.specs.declared.problem.Severity.TheVariants.{Error}
use Rattle.hb_check.specs.Says.{SaysHtml, html_pages, all_faults, any_undecided}
use Rattle.hb_check.specs.Reported.{IsKind, One, ReportsHtml}
use Rattle.hb_check.specs.declared.code.Code.TheVariants.{HtmlUndecided}
use Rattle.hb_check.specs.declared.sources.Sources.{Sources}

-- The check of HTML says something of each page that is asked for. These are the faults of all together, and whether one of them
-- is undecided.
abbrev pub HtmlFinds : Registrations → UserAnswers → Sources → List Text → Bool → List Fault → Type 0
HtmlFinds r a ss ns undecided fs =
    (vs : List Verdict) × AllZip (SaysHtml r a ss) (html_pages ns) vs × (undecided ≡ any_undecided vs) × (fs ≡ all_faults vs)

-- That the check was given up is one problem.
abbrev pub ReportsUndecided : Bool → List Problem → Type 0
ReportsUndecided true ps = One (IsKind Error HtmlUndecided) ps
ReportsUndecided false ps = ps ≡ []

-- Each fault is reported once, and then whether the check was given up.
abbrev pub ReportsHtmlFound : Registrations → UserAnswers → Sources → List Text → List Problem → Type 0
ReportsHtmlFound r a ss ns ps =
    (undecided : Bool) × (fs : List Fault) × (qs rs : List Problem) × HtmlFinds r a ss ns undecided fs
    × AllZip (ReportsHtml ss) fs qs × ReportsUndecided undecided rs × (ps ≡ qs ++ rs)
