use Rattle.std.proofs.Common.{◌≤◌, ◌+◌, length}
use denote.Text.{Utf8}
use denote.Shadow.{shadow}
use Rattle.handlebars_expressions.specs.ExpressionView.{mode_of, enclosure_of, expression_state_of}
use Rattle.handlebars_template.specs.ExpressionBuildingView.{calls_view}
use Rattle.handlebars_template.proofs.ExpressionCalls.{Builds}
use Rattle.handlebars_template.proofs.template.expression.build_terms.Given as goal

abbrev pub invariant-building : goal.invariant-building
invariant-building l = record {
  text : shadow (Utf8 l.rest);
  builds : Builds (mode_of l.fn.mode) (enclosure_of l.fn.around) l.fn.text (expression_state_of l.state) l.rest (calls_view l.calls);
  within : l.state.level + length l.rest ≤ length l.fn.text;
}

abbrev pub decreases-building : goal.decreases-building
decreases-building l = length l.rest
