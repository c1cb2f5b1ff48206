use Rattle.handlebars_data.proofs.LineReads.{line_taken}
use Rattle.handlebars_data.proofs.lines.Lines.take_line.Goals as goal

pub returns-in-Ok-clause-taken : goal.returns-in-Ok-clause-taken
returns-in-Ok-clause-taken g c = line_taken _ _ c.clear.new.self.items c.read_until.new.buf.items _ c.clear.ensures.items c.in-Ok.ensures.bytes c.in-Ok.ensures.rest c.strip_newline.ensures
