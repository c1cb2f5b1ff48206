use denote.Text.{Utf8}
use denote.Shadow.{shadow}
use Rattle.std.proofs.Common.{length}
use Rattle.handlebars_expressions.specs.ExpressionView.{mode_of, enclosure_of, expression_state_of}
use Rattle.handlebars_expressions.proofs.Expressions.{Measures}
use Rattle.handlebars_expressions.proofs.expression.split_terms.Given as goal

abbrev pub invariant-reading : goal.invariant-reading
invariant-reading l = record {
  text : shadow (Utf8 l.rest);
  measures : Measures (mode_of l.fn.mode) (enclosure_of l.around) l.fn.text (expression_state_of l.state) l.rest l.depth;
}

abbrev pub decreases-reading : goal.decreases-reading
decreases-reading l = length l.rest
