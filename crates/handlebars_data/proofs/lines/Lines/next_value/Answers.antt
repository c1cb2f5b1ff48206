use Rattle.handlebars_data.specs.LinesView.{lines_text}
use Rattle.handlebars_data.proofs.LineReads.{value_refused}
use Rattle.handlebars_data.proofs.lines.Lines.next_value.Goals as goal

pub returns-in-Err-clause-next : goal.returns-in-Err-clause-next
returns-in-Err-clause-next g c = λ none. rw (c.stop_at.ensures.reader, c.stop_at.ensures.result, c.stop_at.ensures.taken)
    (value_refused _ _ _ _ (lines_text c.skip_value.new.self) c.in_ok-skip_value.field-0 _ _ c.in-Err.e c.if-not-branch.false (c.in_ok-skip_value.ensures.next none)
    c.in_ok-skip_value.ensures.numbers c.in-Err.ensures.err)
