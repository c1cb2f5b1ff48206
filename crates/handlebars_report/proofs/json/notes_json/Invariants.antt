use Rattle.std.proofs.Common.{◌≡◌, map, take}
use Rattle.serde_json.specs.View.{view}
use Rattle.handlebars_report.specs.Json.{note_json}
use Rattle.handlebars_report.specs.View.{note_view}
use Rattle.handlebars_report.proofs.json.notes_json.Given as goal

abbrev pub invariant-notes : goal.invariant-notes
invariant-notes l = map view l.objects.items ≡ map note_json (map note_view (take l.note-index l.notes))
