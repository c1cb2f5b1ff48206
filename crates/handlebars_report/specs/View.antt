-- What problems are as plain data.
use Rattle.std.specs.Prelude.{map, option_map, string_bytes}
use Rattle.handlebars_report.specs.declared.place.Place as place
use Rattle.handlebars_report.specs.declared.problem.Note as note
use Rattle.handlebars_report.specs.declared.problem.Problem as problem
use Rattle.handlebars_report.specs.Problem.{Place, Note, Problem}

abbrev pub place_view : place.Place → Place
place_view p = record { path = string_bytes p.path; start = p.start; end = p.end; line_text = string_bytes p.line_text }

abbrev pub note_view : note.Note → Note
note_view n = record { message = string_bytes n.message; place = option_map place_view n.place }

abbrev pub problem_view : problem.Problem → Problem
problem_view p = record {
  severity = p.severity;
  code = string_bytes p.code;
  place = place_view p.place;
  message = string_bytes p.message;
  help = map string_bytes p.help.items;
  notes = map note_view p.notes.items;
}
