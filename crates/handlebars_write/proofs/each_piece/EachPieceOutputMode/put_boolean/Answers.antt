use Rattle.std.proofs.Common.{None, ap, refl, true}
use Rattle.handlebars_base.specs.Values.{boolean_text}
use Rattle.handlebars_semantics.specs.Pieces.{of_boolean_text}
use Rattle.handlebars_semantics.specs.Emitted.{helper_boolean}
use Rattle.handlebars_write.proofs.Emits.{writes-piece}
use Rattle.handlebars_write.proofs.each_piece.EachPieceOutputMode.put_boolean.Goals as goal

pub returns-clause-writes : goal.returns-clause-writes
returns-clause-writes g c = λ occurrence location.
    writes-piece _ true (of_boolean_text occurrence c.args.boolean) (boolean_text c.args.boolean) _
    (ap (λ w. record { kind = helper_boolean; location = w; path = None }) (location refl))
    (rw c.boolean_text.ensures at c.put_piece.ensures.emits)
