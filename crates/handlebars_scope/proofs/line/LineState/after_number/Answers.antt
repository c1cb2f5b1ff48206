use Rattle.std.proofs.Common.{sym, ◌∙◌}
use Rattle.serde_json.specs.View.{number_view}
use Rattle.handlebars_scope.specs.LineView.{line_of}
use Rattle.handlebars_scope.proofs.Lines.{line_after_text-float, line_after_text-integer}
use Rattle.handlebars_scope.proofs.line.LineState.after_number.Goals as goal

pub returns-then-is_f64 : goal.returns-then-is_f64
returns-then-is_f64 c = sym (line_after_text-float (number_view c.args.number.now) (line_of c.args.self) (sym c.is_f64.ensures ∙ c.if-is_f64.true))

pub returns-else-is_f64 : goal.returns-else-is_f64
returns-else-is_f64 c =
    c.line_after.ensures ∙ sym (line_after_text-integer (number_view c.args.number.now) (line_of c.args.self) (sym c.is_f64.ensures ∙ c.if-is_f64.false))
