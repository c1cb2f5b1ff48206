-- What `hb check` says.
use Rattle.std.specs.List.{AllZip, Contains}
use denote.Ref.{Bor}
use Rattle.std.specs.Prelude.{◌≡◌, ◌⊎◌, ℕ, ◌==◌, if◌then◌else◌, Bool, true, false, List, ◌++◌, codes, decimal, length, map, string_bytes}
use Rattle.handlebars_base.specs.Bytes.{Text}
use Rattle.handlebars_helpers.specs.UserAnswers.{Registrations, UserAnswers}
use Rattle.handlebars_report.specs.Json.{json_lines}
use Rattle.handlebars_report.specs.Problem.{Problem}
use Rattle.handlebars_report.specs.Report.{report_text}
use Rattle.handlebars_report.specs.Summary.{summary_of, summary_text}
use Rattle.hb_check.specs.Report.{IsReport}
use Rattle.hb_check.specs.declared.question.File.{File}
use Rattle.hb_check.specs.declared.question.Question.{Question}
use Rattle.hb_command.specs.Failures.{shown_path}
use Rattle.hb.specs.declared.check.CheckTask.{CheckTask}
use Rattle.hb.specs.declared.gathering.Gathered.{Gathered}
use Rattle.hb.specs.declared.gathering.OwnedFile.{OwnedFile}

-- ---- what is checked

-- a file: its name, its path and its text
pub record FileText : Type 0 where
  pub name : Text
  pub path : Text
  pub text : Text

abbrev pub file_text : File → FileText
file_text f = record { name = f.name.now; path = f.path.now; text = f.text.now }

abbrev pub owned_text : OwnedFile → FileText
owned_text f = record { name = string_bytes f.name; path = string_bytes f.path; text = string_bytes f.text }

abbrev pub files_of : Gathered → List FileText
files_of g = map owned_text g.files.items

abbrev pub pages_of : Gathered → List Text
pages_of g = map string_bytes g.pages.items

abbrev pub count_of : Gathered → ℕ
count_of g = length g.files.items

-- ---- pages

-- A path is the other one, with or without `./` before it.
abbrev pub IsPlain : Text → Text → Type 0
IsPlain path plain = (path ≡ plain) ⊎ (path ≡ codes "./" ++ plain)

abbrev pub IsSamePath : Text → Text → Type 0
IsSamePath p q = (plain : Text) × IsPlain p plain × IsPlain q plain

-- A file is that of an argument: it is at this path, or it was read there.
abbrev pub IsFileAt : Text → FileText → Type 0
IsFileAt path f = IsSamePath f.path path ⊎ (f.path ≡ shown_path path)

-- The page of this name is one of the files, that of this argument.
abbrev pub IsPageAt : List FileText → Text → Text → Type 0
IsPageAt files name path = (f : FileText) × Contains files f × (f.name ≡ name) × IsFileAt path f

-- The pages are the templates that are named, in order.
abbrev pub ArePages : Gathered → List (Bor Text) → Type 0
ArePages g templates = AllZip (IsPageAt (files_of g)) (pages_of g) (map (λ t. t.now) templates)

-- ---- what is said

-- What is asked for, of the files that were gathered, is answered by a report with these problems.
pub record Checks (r : Registrations) (a : UserAnswers) (g : Gathered) (task : CheckTask) (ps : List Problem) : Type 0 where
  pub question : Question
  pub files : map file_text question.files.now ≡ files_of g
  pub pages : map (λ p. p.now) question.pages.now ≡ pages_of g
  pub markup : question.markup ≡ task.markup
  pub html : question.html ≡ task.html
  pub report : IsReport r a question ps

-- the status: 1 if there is an error
abbrev pub status_by : List Problem → ℕ
status_by ps = if (summary_of ps).errors == 0 then 0 else 1

abbrev pub noun_for : ℕ → Text
noun_for n = if n == 1 then codes "template" else codes "templates"

-- each problem, and then how many templates and problems there are, as `12 templates: 1 error`
abbrev pub text_for_people : ℕ → List Problem → Text
text_for_people n ps =
    report_text ps ++ (decimal n ++ (codes " " ++ (noun_for n ++ (codes ": " ++ (summary_text (summary_of ps) ++ codes "\n")))))

abbrev pub printed_text : Bool → ℕ → List Problem → Text
printed_text true n ps = json_lines ps
printed_text false n ps = text_for_people n ps
