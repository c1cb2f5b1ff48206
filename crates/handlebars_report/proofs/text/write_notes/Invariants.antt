use Rattle.std.proofs.Common.{flat_map, map, take}
use Rattle.std.specs.Fmt.{HasWritten, IsPlainFormatter}
use Rattle.handlebars_report.specs.Text.{note_line}
use Rattle.handlebars_report.specs.View.{note_view}
use Rattle.handlebars_report.proofs.text.write_notes.Given as goal

abbrev pub invariant-notes : goal.invariant-notes
invariant-notes g l = IsPlainFormatter l.initial.f
    → HasWritten g.W.Write.write_str_gives l.initial.f (flat_map (note_line l.margin.0) (map note_view (take l.note-index l.notes))) l.f
