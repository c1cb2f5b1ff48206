use Rattle.std.proofs.Common.{List, arith, false, subst, sym}
use Rattle.std.proofs.lemmas.Str.{IsCharBoundary-start}
use Rattle.handlebars_scope.proofs.Indents.{boundary-cut, line-more, line-none}
use Rattle.handlebars_semantics.specs.Pieces.{Piece, indent_pieces, of_indent, occurrence_of}
use Rattle.handlebars_write.specs.OutcomeView.{outcome_answer}
use Rattle.handlebars_write.specs.ModeView.{piece_mode}
use Rattle.handlebars_write.specs.View.{held_in}
use Rattle.handlebars_write.specs.Writes.{WritesAsIs}
use Rattle.handlebars_write.proofs.Sinks.{same-refl, same-trans}
use Rattle.handlebars_write.proofs.Emits.{one_piece, pieces-cut, pieces-end, writes-over, writes-piece, writes-then}
use Rattle.handlebars_write.proofs.each_piece.emit_lines.Goals.{then-bytes-at-eq10+in-Done+in-Done-emit_some, else-bytes-at-eq10}
use Rattle.handlebars_write.proofs.each_piece.emit_lines.Goals as goal

pub lines-init : goal.lines-init
lines-init g c = record {
  within = omega arith;
  boundary = IsCharBoundary-start c.args.text.now c.utf8.text;
  line = tt;
  left = λ o is at_indent r last w. w;
  same = same-refl _;
}

pub range-requires-clause-end_boundary : goal.range-requires-clause-end_boundary
range-requires-clause-end_boundary g c =
    boundary-cut _ _ c.lines.at c.utf8.text c.as_bytes-bytes.ensures.value c.lines-test.true
    c.lines.written c.lines.invariant.within c.if-bytes-at-eq10.true

pub returns-in_default-clause-writes : goal.returns-in_default-clause-writes
returns-in_default-clause-writes g c = λ o is at_indent.
    let l = c.lines in
    let here = pieces-cut o c.args.indent.now c.args.text.now _ c.range.result.now l.written l.at c.as_bytes-bytes.ensures.value c.range.ensures.value l.invariant.within c.lines-test.true c.if-bytes-at-eq10.true l.invariant.line in
    l.invariant.left o is at_indent _ _
    (subst (λ (ps : List Piece). WritesAsIs ps false g.O.PieceOutput.may_give (held_in (piece_mode g.O.PieceOutput.received g.O.PieceOutput.may_give) l.sink) (outcome_answer c.emit.result) (held_in (piece_mode g.O.PieceOutput.received g.O.PieceOutput.may_give) c.emit.new.sink))
    (sym here) (writes-over _ false (one_piece o c.range.result.now) _ c.emit.result c.in_default.not-Done (writes-piece _ false o c.range.result.now _ is c.emit.ensures.emits)))

pub returns-in_default-emit_some-clause-writes : goal.returns-in_default-emit_some-clause-writes
returns-in_default-emit_some-clause-writes g c = λ o is at_indent.
    let l = c.lines in
    let here = pieces-cut o c.args.indent.now c.args.text.now _ c.range.result.now l.written l.at c.as_bytes-bytes.ensures.value c.range.ensures.value l.invariant.within c.lines-test.true c.if-bytes-at-eq10.true l.invariant.line in
    l.invariant.left o is at_indent _ _
    (subst (λ (ps : List Piece). WritesAsIs ps false g.O.PieceOutput.may_give (held_in (piece_mode g.O.PieceOutput.received g.O.PieceOutput.may_give) l.sink) (outcome_answer c.emit_some.result) (held_in (piece_mode g.O.PieceOutput.received g.O.PieceOutput.may_give) c.emit_some.new.sink))
    (sym here) (writes-then _ false (one_piece o c.range.result.now) _ (writes-piece _ false o c.range.result.now _ is c.in-Done.ensures.emits)
    (writes-over _ false (indent_pieces o c.args.indent.now) _ c.emit_some.result c.in_default-emit_some.not-Done (c.emit_some.ensures.writes (of_indent (occurrence_of o)) at_indent))))

pub lines-preserved : goal.lines-preserved
lines-preserved g c =
    let l = c.lines in
    let bytes = c.as_bytes-bytes.ensures.value in
    let inside = c.lines-test.true in
    elim c.if-bytes-at-eq10.branch [
      | then-bytes-at-eq10+in-Done+in-Done-emit_some w ↦
          rw (w.sink-is, w.written-is) record {
            within = omega arith;
            boundary = boundary-cut _ _ l.at c.utf8.text bytes inside l.written l.invariant.within w.if-bytes-at-eq10.true;
            line = line-none _ l.at;
            left = λ o is at_indent r last x.
                let here = pieces-cut o c.args.indent.now c.args.text.now _ w.range.result.now l.written l.at bytes w.range.ensures.value l.invariant.within inside w.if-bytes-at-eq10.true l.invariant.line in
                l.invariant.left o is at_indent r last
                (subst (λ (ps : List Piece). WritesAsIs ps false g.O.PieceOutput.may_give (held_in (piece_mode g.O.PieceOutput.received g.O.PieceOutput.may_give) l.sink) r last)
                (sym here) (writes-then _ false (one_piece o w.range.result.now) _ (writes-piece _ false o w.range.result.now _ is w.in-Done.ensures.emits)
                (writes-then _ false (indent_pieces o c.args.indent.now) _ (w.in-Done-emit_some.ensures.writes (of_indent (occurrence_of o)) at_indent) x)));
            same = same-trans _ _ _ l.invariant.same (same-trans _ _ _ w.in-Done.ensures.same w.in-Done-emit_some.ensures.same);
          }
      | else-bytes-at-eq10 w ↦
          rw (w.sink-is, w.written-is) record {
            within = omega arith;
            boundary = l.invariant.boundary;
            line = line-more _ _ l.written l.at bytes l.invariant.within inside w.if-bytes-at-eq10.false l.invariant.line;
            left = l.invariant.left;
            same = l.invariant.same;
          }
    ]

pub returns-clause-writes : goal.returns-clause-writes
returns-clause-writes g c = λ o is at_indent.
    let l = c.lines in
    let here = pieces-end o c.args.indent.now c.args.text.now _ c.range_from.result.now l.written l.at c.as_bytes-bytes.ensures.value c.range_from.ensures.value c.lines-test.false l.invariant.line in
    l.invariant.left o is at_indent _ _
    (subst (λ (ps : List Piece). WritesAsIs ps false g.O.PieceOutput.may_give (held_in (piece_mode g.O.PieceOutput.received g.O.PieceOutput.may_give) l.sink) (outcome_answer c.emit_some-2.result) (held_in (piece_mode g.O.PieceOutput.received g.O.PieceOutput.may_give) c.emit_some-2.new.sink))
    (sym here) (c.emit_some-2.ensures.writes o is))
