use Rattle.std.proofs.Common.{List, Ok, ◌++◌, ◌∙◌, false, subst, sym}
use Rattle.handlebars_scope.specs.Indentation.{lines_of}
use Rattle.handlebars_scope.specs.LineView.{line_of}
use Rattle.handlebars_semantics.specs.Pieces.{Piece, indent_pieces, of_indent, pieces_before, pieces_between, occurrence_of}
use Rattle.handlebars_write.specs.ModeView.{piece_mode}
use Rattle.handlebars_write.specs.OutcomeView.{outcome_answer}
use Rattle.handlebars_write.specs.View.{held_in}
use Rattle.handlebars_write.specs.Writes.{WritesAsIs}
use Rattle.handlebars_write.proofs.Emits.{before-none, before-takes, writes-over, writes-then}
use Rattle.handlebars_write.proofs.each_piece.emit_under.Goals.{then-takes_indent+in-Done, else-takes_indent}
use Rattle.handlebars_write.proofs.each_piece.emit_under.Goals as goal

pub returns-in_default-clause-writes : goal.returns-in_default-clause-writes
returns-in_default-clause-writes g c = λ o is.
    let w = piece_mode g.O.PieceOutput.received g.O.PieceOutput.may_give in
    writes-over _ false (pieces_before o c.args.indent.now c.args.text.now (line_of c.args.line)) _ c.emit_some.result c.in_default.not-Done
    (subst (λ (ps : List Piece). WritesAsIs ps false w.may_give (held_in w c.args.sink.now) (outcome_answer c.emit_some.result) (held_in w c.emit_some.new.sink))
    (sym (before-takes o c.args.indent.now c.args.text.now (line_of c.args.line) (sym c.takes_indent.ensures ∙ c.if-takes_indent.true)))
    (c.emit_some.ensures.writes (of_indent (occurrence_of o)) (c.indentation_by-indentation.ensures o is)))

pub returns-clause-writes : goal.returns-clause-writes
returns-clause-writes g c = λ o is.
    let w = piece_mode g.O.PieceOutput.received g.O.PieceOutput.may_give in
    let at_indent = c.indentation_by-indentation.ensures o is in
    elim c.if-takes_indent.branch [
      | then-takes_indent+in-Done b ↦
          writes-then _ false (pieces_before o c.args.indent.now c.args.text.now (line_of c.args.line)) _
          (subst (λ (ps : List Piece). WritesAsIs ps false w.may_give (held_in w c.args.sink.now) (Ok tt) (held_in w b.emit_some.new.sink))
          (sym (before-takes o c.args.indent.now c.args.text.now (line_of c.args.line) (sym c.takes_indent.ensures ∙ b.if-takes_indent.true)))
          (b.in-Done.ensures.writes (of_indent (occurrence_of o)) at_indent))
          (rw b.sink-is at (c.emit_lines.ensures.writes o is at_indent))
      | else-takes_indent b ↦
          subst (λ (ps : List Piece). WritesAsIs (ps ++ pieces_between o (indent_pieces o c.args.indent.now) (lines_of c.args.text.now)) false w.may_give (held_in w c.args.sink.now) (outcome_answer c.emit_lines.result) (held_in w c.emit_lines.new.sink))
          (sym (before-none o c.args.indent.now c.args.text.now (line_of c.args.line) (sym c.takes_indent.ensures ∙ b.if-takes_indent.false)))
          (rw b.sink-is at (c.emit_lines.ensures.writes o is at_indent))
    ]
