use Rattle.std.proofs.Common.{◌∙◌, sym, ap}
use Rattle.handlebars.specs.Writers.{utf8_or_empty}
use Rattle.handlebars.proofs.HeldBytes.{utf8_or_empty-utf8, utf8_or_empty-other}
use Rattle.handlebars.proofs.output.string_writer.StringWriter.into_string.Goals as goal

pub returns-in-Ok : goal.returns-in-Ok
returns-in-Ok c = sym (utf8_or_empty-utf8 _ c.in-Ok.text.ok) ∙ ap utf8_or_empty (ap (λ bytes. bytes.items) c.in-Ok.ensures.ok)

pub returns : goal.returns
returns c = c.new.ensures.bytes ∙ sym (utf8_or_empty-other _ c.in-Err.ensures.succeeds)
