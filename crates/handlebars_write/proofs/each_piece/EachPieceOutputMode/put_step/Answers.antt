use Rattle.std.proofs.Common.{List, None, Ok, ap, false, refl, sym, ◌∙◌, subst}
use Rattle.handlebars_base.specs.Bytes.{Text}
use Rattle.handlebars_scope.proofs.Indents.{is-empty}
use Rattle.handlebars_semantics.specs.Emitted.{user_text}
use Rattle.handlebars_semantics.specs.Pieces.{Piece, of_step, pieces_of}
use Rattle.handlebars_write.specs.ModeView.{piece_mode}
use Rattle.handlebars_write.specs.OutcomeView.{outcome_answer}
use Rattle.handlebars_write.specs.View.{held_in}
use Rattle.handlebars_write.specs.Writes.{WritesAsIs}
use Rattle.handlebars_write.proofs.Emits.{not-empty, pieces-some, writes-nil, writes-piece}
use Rattle.handlebars_write.proofs.each_piece.EachPieceOutputMode.put_step.Goals as goal

pub returns-then-is_empty-clause-writes : goal.returns-then-is_empty-clause-writes
returns-then-is_empty-clause-writes g c = λ occurrence location i.
    let w = piece_mode g.O.PieceOutput.received g.O.PieceOutput.may_give in
    let h = held_in w c.args.sink.now in
    subst (λ (t : Text). WritesAsIs (pieces_of (of_step occurrence i) t) false w.may_give h (Ok tt) h)
    (sym (is-empty c.args.text.now (sym c.is_empty.ensures ∙ c.if-is_empty.true))) (writes-nil _ _)

pub returns-clause-writes : goal.returns-clause-writes
returns-clause-writes g c = λ occurrence location i.
    let w = piece_mode g.O.PieceOutput.received g.O.PieceOutput.may_give in
    let o = of_step occurrence i in
    subst (λ (ps : List Piece). WritesAsIs ps false w.may_give (held_in w c.args.sink.now) (outcome_answer c.put_piece.result) (held_in w c.put_piece.new.sink))
    (sym (pieces-some o c.args.text.now (not-empty c.args.text.now (sym c.is_empty.ensures ∙ c.if-is_empty.false))))
    (writes-piece _ _ o c.args.text.now _ (ap (λ w. record { kind = user_text; location = w; path = None }) (location refl)) c.put_piece.ensures.emits)
