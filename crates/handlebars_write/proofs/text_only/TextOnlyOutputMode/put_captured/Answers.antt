use Rattle.std.proofs.Common.{false, refl}
use Rattle.handlebars_write.specs.ModeView.{text_mode}
use Rattle.handlebars_write.proofs.Puts.{captured_as_text, none_emitted, text_as_is}
use Rattle.handlebars_write.proofs.text_only.TextOnlyOutputMode.put_captured.Goals as goal

pub returns-clause-writes : goal.returns-clause-writes
returns-clause-writes g c = λ ps are.
    let w = text_mode g.O.Output.held g.O.Output.may_give in
    text_as_is _ ps false (captured_as_text ps c.args.captured.now are)
    (none_emitted w c.args.sink.now refl) (none_emitted w c.write_as_is.new.sink refl) (rw c.as_str.ensures.value at c.write_as_is.ensures.writes)
