use Rattle.handlebars_scope.specs.LineView.{line_of}
use Rattle.handlebars_write.proofs.Puts.{plain-at, text_failed, text_put}
use Rattle.handlebars_write.proofs.text_only.put_plain.Goals as goal

pub returns-in-Done-clause-puts : goal.returns-in-Done-clause-puts
returns-in-Done-clause-puts g c = λ s indent same.
    text_put _ c.args.text.now s (line_of c.args.line.now) (line_of c.after.result) same c.after.ensures
    (plain-at s c.args.text.now indent) c.in-Done.ensures.writes

pub returns-in_default-clause-puts : goal.returns-in_default-clause-puts
returns-in_default-clause-puts g c = λ s indent same.
    text_failed _ c.args.text.now s _ c.write_inlined.result c.in_default.not-Done (plain-at s c.args.text.now indent) c.write_inlined.ensures.writes
