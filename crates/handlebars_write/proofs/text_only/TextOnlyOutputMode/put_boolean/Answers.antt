use Rattle.std.proofs.Common.{[], ◌∷◌, append-nil, refl, true}
use Rattle.handlebars_base.specs.Values.{boolean_text}
use Rattle.handlebars_semantics.specs.Pieces.{of_boolean_text}
use Rattle.handlebars_write.specs.ModeView.{text_mode}
use Rattle.handlebars_write.proofs.Puts.{none_emitted, text_as_is}
use Rattle.handlebars_write.proofs.text_only.TextOnlyOutputMode.put_boolean.Goals as goal

pub returns-clause-writes : goal.returns-clause-writes
returns-clause-writes g c = λ occurrence location.
    let w = text_mode g.O.Output.held g.O.Output.may_give in
    text_as_is _ (record { origin = of_boolean_text occurrence c.args.boolean; text = boolean_text c.args.boolean } ∷ []) true (append-nil (boolean_text c.args.boolean))
    (none_emitted w c.args.sink.now refl) (none_emitted w c.write_as_is.new.sink refl) (rw c.boolean_text.ensures at c.write_as_is.ensures.writes)
