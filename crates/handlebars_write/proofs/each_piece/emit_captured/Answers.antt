use Rattle.std.proofs.Common.{◌∙◌, ◌+◌, List, Ok, ap, ap₂, drop, false, map, subst, sym}
use Rattle.handlebars_semantics.specs.Pieces.{Piece}
use Rattle.handlebars_expand.specs.PiecesView.{emitted_by}
use Rattle.handlebars_write.specs.ModeView.{piece_mode}
use Rattle.handlebars_write.specs.OutcomeView.{outcome_answer}
use Rattle.handlebars_write.specs.View.{held_in}
use Rattle.handlebars_write.specs.Writes.{WritesAsIs}
use Rattle.handlebars_write.proofs.Sinks.{same-trans}
use Rattle.handlebars_write.proofs.Emits.{captured-end, captured-next, captured-emitted, one_piece, writes-nil, writes-over, writes-then}
use Rattle.handlebars_write.proofs.each_piece.emit_captured.Goals as goal

pub returns-in_default-clause-writes : goal.returns-in_default-clause-writes
returns-in_default-clause-writes g c = λ ps are.
    let w = piece_mode g.O.PieceOutput.received g.O.PieceOutput.may_give in
    let l = c.pieces in
    let all = are ∙ ap (map emitted_by) (sym c.deref-piece-items.ensures.value) in
    let here = captured-next ps c.deref-piece-items.result.now l.piece-index c.piece-item.result all c.pieces-test.true in
    l.invariant.left ps all _ _
    (subst (λ (qs : List Piece). WritesAsIs qs false w.may_give (held_in w l.sink) (outcome_answer c.emit.result) (held_in w c.emit.new.sink))
    (sym here.1) (writes-over _ false (one_piece here.0.origin here.0.text) _ c.emit.result c.in_default.not-Done
    (captured-emitted here.0.origin here.0.text (emitted_by c.piece-item.result) _ _ (here.2 ∙ ap emitted_by (sym c.piece-item.is))
    (ap₂ (λ t o. record { text = t; provenance = o }) c.text.ensures c.origin-origin.ensures) c.emit.ensures.emits)))

pub pieces-preserved : goal.pieces-preserved
pieces-preserved g c =
    let w = piece_mode g.O.PieceOutput.received g.O.PieceOutput.may_give in
    let l = c.pieces in record {
      left = λ ps all r last x.
          let here = captured-next ps c.deref-piece-items.result.now l.piece-index c.piece-item.result all c.pieces-test.true in
          l.invariant.left ps all r last
          (subst (λ (qs : List Piece). WritesAsIs qs false w.may_give (held_in w l.sink) r last)
          (sym here.1) (writes-then _ false (one_piece here.0.origin here.0.text) (drop (l.piece-index + 1) ps)
          (captured-emitted here.0.origin here.0.text (emitted_by c.piece-item.result) _ _ (here.2 ∙ ap emitted_by (sym c.piece-item.is))
          (ap₂ (λ t o. record { text = t; provenance = o }) c.text.ensures c.origin-origin.ensures) c.in-Done.ensures.emits) x));
      same = same-trans _ _ _ l.invariant.same c.in-Done.ensures.same;
    }

pub returns-clause-writes : goal.returns-clause-writes
returns-clause-writes g c = λ ps are.
    let w = piece_mode g.O.PieceOutput.received g.O.PieceOutput.may_give in
    let l = c.pieces in
    let all = are ∙ ap (map emitted_by) (sym c.deref-piece-items.ensures.value) in
    l.invariant.left ps all _ _
    (subst (λ (qs : List Piece). WritesAsIs qs false w.may_give (held_in w l.sink) (Ok tt) (held_in w l.sink))
    (sym (captured-end ps c.deref-piece-items.result.now l.piece-index all c.pieces-test.false)) (writes-nil _ false))
