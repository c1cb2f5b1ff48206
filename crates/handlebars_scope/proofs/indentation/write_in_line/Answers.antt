use Rattle.std.proofs.Common.{sym, ◌∙◌}
use Rattle.handlebars_base.proofs.Writes.{begins, left_is, next_write, failed_write, last_write, written_is}
use Rattle.handlebars_scope.specs.LineView.{line_of}
use Rattle.handlebars_scope.proofs.Indents.{written_in-none, written_in-takes, written_in-goes_on, is-empty}
use Rattle.handlebars_scope.proofs.indentation.write_in_line.Goals.{then-takes_indent+in_ok-write, else-takes_indent}
use Rattle.handlebars_scope.proofs.indentation.write_in_line.Goals as goal

pub returns-then-is_empty-clause-written : goal.returns-then-is_empty-clause-written
returns-then-is_empty-clause-written g c =
    written_is _ _ _ (sym (written_in-none c.args.indent.now (line_of c.args.line) _ (is-empty _ (sym c.is_empty.ensures ∙ c.if-is_empty.true)))) c.write_part.ensures.written

pub returns-in_err-write-clause-written : goal.returns-in_err-write-clause-written
returns-in_err-write-clause-written g c =
    failed_write _ _ c.from_residual.ensures.0
    (left_is (sym (written_in-takes _ (line_of c.args.line) c.args.escapes _ (sym c.takes_indent.ensures ∙ c.if-takes_indent.true))) (begins _ _))
    c.in_err-write.ensures.written

pub returns-clause-written : goal.returns-clause-written
returns-clause-written g c = elim c.if-takes_indent.branch [
  | then-takes_indent+in_ok-write w ↦
      last_write _ _ (next_write (left_is (sym (written_in-takes _ (line_of c.args.line) c.args.escapes _ (sym c.takes_indent.ensures ∙ w.if-takes_indent.true))) (begins _ _)) w.in_ok-write.ensures.written)
      (rw w.out-is at c.write_lines.ensures.written)
  | else-takes_indent w ↦
      written_is _ _ _ (written_in-goes_on _ (line_of c.args.line) c.args.escapes _ (sym c.takes_indent.ensures ∙ w.if-takes_indent.false)) (rw w.out-is at c.write_lines.ensures.written)
]
