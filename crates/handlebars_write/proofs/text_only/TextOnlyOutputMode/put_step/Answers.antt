use Rattle.std.proofs.Common.{false, refl}
use Rattle.handlebars_semantics.specs.Pieces.{of_step, pieces_of}
use Rattle.handlebars_semantics.proofs.Pieces.{join-pieces_of}
use Rattle.handlebars_write.specs.ModeView.{text_mode}
use Rattle.handlebars_write.proofs.Puts.{none_emitted, text_as_is}
use Rattle.handlebars_write.proofs.text_only.TextOnlyOutputMode.put_step.Goals as goal

pub returns-clause-writes : goal.returns-clause-writes
returns-clause-writes g c = λ occurrence location i.
    let w = text_mode g.O.Output.held g.O.Output.may_give in
    text_as_is _ (pieces_of (of_step occurrence i) c.args.text.now) false (join-pieces_of (of_step occurrence i) c.args.text.now)
    (none_emitted w c.args.sink.now refl) (none_emitted w c.write_as_is.new.sink refl) c.write_as_is.ensures.writes
