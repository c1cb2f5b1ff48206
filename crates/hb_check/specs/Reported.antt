-- Which problem a fault is reported as.
use Rattle.std.specs.Prelude.{◌≡◌, List, [], ◌∷◌, ◌++◌, map}
use Rattle.std.specs.List.{AllZip}
use Rattle.handlebars_html.specs.Faults as html
use Rattle.handlebars_markup.specs.Faults as markup
use Rattle.handlebars_names.specs.Faults as names
use Rattle.handlebars_names.specs.Search.{Verdict, no_faults, some_faults, undecided}
use Rattle.handlebars_report.specs.Problem.{Place, Problem}
use Rattle.handlebars_report.specs.View.{problem_view}
use Rattle.handlebars_report.specs.declared.problem.Problem as problem
use Rattle.handlebars_report.specs.declared.problem.Severity.{Severity}
use Rattle.handlebars_report.specs.declared.problem.Severity.TheVariants.{Error}
use Rattle.hb_check.specs.Codes.{code_text, code_of_why, severity_of_why}
use Rattle.hb_check.specs.Place.{IsPlaced}
use Rattle.hb_check.specs.declared.code.Code.{Code}
use Rattle.hb_check.specs.declared.code.Code.TheVariants.{NamesUndecided, Markup, Html}
use Rattle.hb_check.specs.declared.sources.Sources.{Sources}

-- a problem of this kind, so bad
pub record IsKind (severity : Severity) (code : Code) (p : Problem) : Type 0 where
  pub is_severity : p.severity ≡ severity
  pub is_code : p.code ≡ code_text code

-- a problem of this kind, so bad, at this place
pub record IsMade (severity : Severity) (code : Code) (place : Place) (p : Problem) : Type 0 where
  pub is : IsKind severity code p
  pub at : p.place ≡ place

-- These problems are added, in order, to those that there were.
abbrev pub Adds : List problem.Problem → List problem.Problem → List Problem → Type 0
Adds before after ps = map problem_view after ≡ map problem_view before ++ ps

-- Problems of which this holds are added.
abbrev pub AddsSome : (List Problem → Type 0) → List problem.Problem → List problem.Problem → Type 0
AddsSome P before after = (ps : List Problem) × P ps × Adds before after ps

-- one of which this holds
abbrev pub One : (Problem → Type 0) → List Problem → Type 0
One P [] = ⊥
One P (p ∷ []) = P p
One P (p ∷ (q ∷ ps)) = ⊥

-- ---- names

pub record ReportsName (ss : Sources) (f : names.Fault) (p : Problem) : Type 0 where
  pub is : IsKind (severity_of_why f.why) (code_of_why f.why) p
  pub at : IsPlaced ss f.template_name f.line f.column p.place

-- Each fault of a verdict is reported once, in order, and nothing else is.
abbrev pub ReportsNames : Sources → Verdict → List Problem → Type 0
ReportsNames ss no_faults ps = ps ≡ []
ReportsNames ss (some_faults fs) ps = AllZip (ReportsName ss) fs ps
ReportsNames ss undecided ps = One (IsKind Error NamesUndecided) ps

-- ---- markup

pub record ReportsMarkup (ss : Sources) (f : markup.Fault) (p : Problem) : Type 0 where
  pub is : IsKind Error Markup p
  pub at : IsPlaced ss f.template f.line f.column p.place

-- ---- html

pub record ReportsHtml (ss : Sources) (f : html.Fault) (p : Problem) : Type 0 where
  pub is : IsKind Error Html p
  pub at : IsPlaced ss f.template f.line f.column p.place
