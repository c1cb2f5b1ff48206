use Rattle.handlebars_scope.specs.LineView.{line_of}
use Rattle.handlebars_write.proofs.Puts.{plain-at, reports_write_error, text_all, text_as, text_error, text_put}
use Rattle.handlebars_write.proofs.value.indent_aware_write.Goals as goal

pub returns-in-Ok-clause-puts : goal.returns-in-Ok-clause-puts
returns-in-Ok-clause-puts g c = λ s indent same.
    text_put _ c.args.text.now s (line_of c.args.line.now) (line_of c.after.result) same c.after.ensures
    (plain-at s c.args.text.now indent) (text_all _ _ _ c.in-Ok.ensures.written)

pub returns-in-Err-clause-puts : goal.returns-in-Err-clause-puts
returns-in-Err-clause-puts g c = λ s indent same. (
  tt,
  text_as _ (plain-at s c.args.text.now indent)
      (text_error _ _ _ c.in-Err.write_error c.output_error.result c.in-Err.ensures.written c.in-Err.ensures.given
      (reports_write_error c.in-Err.write_error c.output_error.result c.output_error.ensures.refusal c.output_error.ensures.cause)),
)
