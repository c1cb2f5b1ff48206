use Rattle.handlebars_scope.specs.LineView.{line_of}
use Rattle.handlebars_write.proofs.Emits.{pieces-done, pieces-failed}
use Rattle.handlebars_write.proofs.each_piece.put_from.Goals as goal

pub returns-in-Done-clause-puts : goal.returns-in-Done-clause-puts
returns-in-Done-clause-puts g c = λ o is s indent same.
    pieces-done _ o c.args.text.now s indent same (line_of c.after.result) c.after.ensures (c.in-Done.ensures.writes o is)

pub returns-in_default-clause-puts : goal.returns-in_default-clause-puts
returns-in_default-clause-puts g c = λ o is s indent same.
    pieces-failed _ o c.args.text.now s indent same _ c.emit_put.result c.in_default.not-Done (c.emit_put.ensures.writes o is)
