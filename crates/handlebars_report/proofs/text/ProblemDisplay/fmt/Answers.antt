use Rattle.std.proofs.Common.{◌++◌, flat_map, map, refl, string_bytes}
use Rattle.std.proofs.Output.{has_written_append, has_written_of_eq}
use Rattle.handlebars_report.specs.Text.{head_line, help_line, note_line, excerpt as excerpt_of}
use Rattle.handlebars_report.specs.View.{note_view, place_view, problem_view}
use Rattle.handlebars_report.proofs.text.ProblemDisplay.fmt.Goals as goal

pub returns-clause-writes : goal.returns-clause-writes
returns-clause-writes g c = λ plain ok.
    let head = c.in_ok-write_head.ensures plain refl in
    let excerpt = c.in_ok-write_excerpt.ensures head.plain refl in
    let help = c.in_ok-write_help.ensures excerpt.plain refl in
    let notes = c.write_notes.ensures help.plain ok in
    has_written_of_eq _ _ _ _ _
    (λ i. head_line (problem_view c.args.self.now) ++ excerpt_of (place_view c.args.self.now.place)
    ++ flat_map (help_line (c.start.ensures i).line) (map string_bytes (c.deref.ensures.value i))
    ++ flat_map (note_line (c.start.ensures i).line) (map note_view (c.deref-2.ensures.value i)))
    (has_written_append _ _ _ _ _ _ (has_written_append _ _ _ _ _ _ (has_written_append _ _ _ _ _ _ head excerpt) help) notes)
