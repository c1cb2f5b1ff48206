-- Problems as JSON. The members of an object are in the order of their keys.
use Rattle.std.specs.Prelude.{List, ◌++◌, codes, flat_map, map, Option, Some, None}
use Rattle.serde_json.specs.Data.{Data, array, member, no_members, number, object, string, unsigned}
use Rattle.serde_json.specs.View.{items_of}
use Rattle.serde_json.specs.Written.{compact_text}
use Rattle.handlebars_report.specs.declared.position.Position.{Position}
use Rattle.handlebars_report.specs.Position.{Text}
use Rattle.handlebars_report.specs.Problem.{Place, Note, Problem}
use Rattle.handlebars_report.specs.Text.{severity_text}

abbrev pub position_json : Position → Data
position_json p = object (
    member (codes "column") (number (unsigned p.column)) (
    member (codes "line") (number (unsigned p.line)) (
    member (codes "offset") (number (unsigned p.offset)) no_members)))

-- the message, and the place if there is one
abbrev pub note_json : Note → Data
note_json n = with_place (string n.message) n.place
  where
    with_place : Data → Option Place → Data
    with_place message None = object (member (codes "message") message no_members)
    with_place message (Some place) = object (
        member (codes "end") (position_json place.end) (
        member (codes "file") (string place.path) (
        member (codes "message") message (
        member (codes "start") (position_json place.start) no_members))))

abbrev pub problem_json : Problem → Data
problem_json p = object (
    member (codes "code") (string p.code) (
    member (codes "end") (position_json p.place.end) (
    member (codes "file") (string p.place.path) (
    member (codes "help") (array (items_of (map string p.help))) (
    member (codes "message") (string p.message) (
    member (codes "notes") (array (items_of (map note_json p.notes))) (
    member (codes "severity") (string (severity_text p.severity)) (
    member (codes "start") (position_json p.place.start) no_members))))))))

-- one problem a line
abbrev pub json_lines : List Problem → Text
json_lines problems = flat_map (λ p. compact_text (problem_json p) ++ codes "\n") problems
