-- What is printed of problems.
use Rattle.std.specs.Prelude.{ℕ, ◌+◌, ◌-◌, ◌==◌, if◌then◌else◌, ◌++◌, chars, codes, decimal, flat_map, length, map, max, min, replicate, take, Option, Some, None}
use Rattle.handlebars_report.specs.declared.problem.Severity.{Severity}
use Rattle.handlebars_report.specs.declared.problem.Severity.TheVariants.{Error, Warning}
use Rattle.handlebars_report.specs.Position.{Text}
use Rattle.handlebars_report.specs.Problem.{Place, Note, Problem}

abbrev pub tab : ℕ
tab = 9

abbrev pub blank : ℕ
blank = 32

abbrev pub caret : ℕ
caret = 94

abbrev pub severity_text : Severity → Text
severity_text Error = codes "error"
severity_text Warning = codes "warning"

-- the path, the line and the column, as `page.hbs:12:5`
abbrev pub place_text : Place → Text
place_text p = p.path ++ codes ":" ++ decimal p.start.line ++ codes ":" ++ decimal p.start.column

-- ---- the line with the carets under it

-- What stands under a character that is before the range. A tab stays a tab, so that the carets are under their characters.
abbrev pub under : ℕ → ℕ
under c = if c == tab then tab else blank

-- Carets from a column up to another one, 1 at least.
abbrev pub caret_line : Text → ℕ → ℕ → Text
caret_line line from to = map under (take (from - 1) (chars line)) ++ replicate (max (to - from) 1) caret

-- the column where the range ends, or where its first line does
abbrev pub last_column : Place → ℕ
last_column p = let line_end = length (chars p.line_text) + 1 in
    if p.end.line == p.start.line then min p.end.column line_end else line_end

-- what stands under the line on which the range starts
abbrev pub carets : Place → Text
carets p = caret_line p.line_text p.start.column (last_column p)

-- as many blanks as the number of a line has digits, and 1 more
abbrev pub margin : ℕ → Text
margin line = replicate (length (decimal line) + 1) blank

abbrev pub empty_line : ℕ → Text
empty_line line = margin line ++ codes "|\n"

-- the line on which the range starts, after its number
abbrev pub source_line : Place → Text
source_line p = decimal p.start.line ++ codes " | " ++ p.line_text ++ codes "\n"

abbrev pub carets_line : Place → Text
carets_line p = margin p.start.line ++ codes "| " ++ carets p ++ codes "\n"

abbrev pub excerpt : Place → Text
excerpt p = empty_line p.start.line ++ source_line p ++ carets_line p

-- ---- help and notes

abbrev pub help_line : ℕ → Text → Text
help_line line help = margin line ++ codes "= help: " ++ help ++ codes "\n"

-- the message, and the place if there is one
abbrev pub note_text : Note → Text
note_text n = with_place n.message n.place
  where
    with_place : Text → Option Place → Text
    with_place message None = message
    with_place message (Some place) = message ++ codes " " ++ place_text place

abbrev pub note_line : ℕ → Note → Text
note_line line n = margin line ++ codes "= note: " ++ note_text n ++ codes "\n"

-- ---- problems

-- where it is, how bad it is, and what it is
abbrev pub head_line : Problem → Text
head_line p = place_text p.place ++ codes ": " ++ severity_text p.severity ++ codes ": " ++ p.message ++ codes "\n"

abbrev pub problem_text : Problem → Text
problem_text p = head_line p ++ excerpt p.place ++ flat_map (help_line p.place.start.line) p.help ++ flat_map (note_line p.place.start.line) p.notes
