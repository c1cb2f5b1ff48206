use Rattle.std.proofs.Common.{◌≡◌, ◌+◌, ◌*◌, length, ℕ, map, Bool, List}
use Rattle.std.specs.Vec.Iter.{into_iter_items, into_iter_len}
use Rattle.handlebars_template.specs.TreeView.{call_view, element_view, position_of}
use Rattle.handlebars_template.specs.declared.template.tree.Template.{out-Template}
use Rattle.handlebars_helpers.specs.CallView.{CallView}
use Rattle.handlebars_helpers.specs.UserView.{step_of}
use Rattle.handlebars_semantics.specs.Execute.{view_with_bodies}
use Rattle.handlebars_semantics.specs.Occurrences.{Occurrence, TreeOccurrence}
use Rattle.handlebars_values.specs.View.{CapturedIn, setting_in, within, state_with}
use Rattle.handlebars_write.specs.View.{IsSame, held_in, moment_at}
use Rattle.handlebars_write.proofs.Elements.{Left}
use Rattle.handlebars_write.proofs.UserSteps.{StepsLeft}
use Rattle.handlebars_elements.specs.View.{Captures, IsUnchanged, KnowsAround, KnowsLocation, moment, KnowsElement}
use Rattle.serde_json.specs.View.{view}
use Rattle.handlebars_template.specs.Tree.{call_binding}
use Rattle.handlebars_scope.specs.Scopes.{Frame, empty_frame}
use Rattle.handlebars_helpers.specs.View.{iterations_left}
use Rattle.handlebars_semantics.specs.State.{push_frame}
use Rattle.handlebars_layers.specs.LayerView.{chain_of}
use Rattle.handlebars_layers.specs.Members.{AllKeyed, AllMembers, has_keys}
use Rattle.handlebars_layers.specs.PartialsView.{partials_of}
use Rattle.handlebars_write.proofs.Iterations.{IterationsLeft}
use Rattle.handlebars_elements.proofs.InLayers.{state_in}
use Rattle.handlebars_elements.proofs.Iterations.{IsFrame, path_of}
use Rattle.handlebars_elements.proofs.+render.Given as goal

-- Each nested tree leaves one less of the fuel. From one tree to the next the functions follow in this order.

abbrev pub decreases-element::render_element : goal.decreases-element::render_element
decreases-element::render_element g l = 16 * l.fuel + 14

abbrev pub decreases-element::render_unescaped : goal.decreases-element::render_unescaped
decreases-element::render_unescaped g l = 16 * l.fuel + 13

abbrev pub decreases-element::render_expression : goal.decreases-element::render_expression
decreases-element::render_expression g l = 16 * l.fuel + 12

abbrev pub decreases-call::render_call : goal.decreases-call::render_call
decreases-call::render_call g l = 16 * l.fuel + 11

abbrev pub decreases-alone::render_lone_element : goal.decreases-alone::render_lone_element
decreases-alone::render_lone_element g l = 16 * l.fuel + 11

abbrev pub decreases-alone::render_path : goal.decreases-alone::render_path
decreases-alone::render_path g l = 16 * l.fuel + 10

abbrev pub decreases-alone::render_literal : goal.decreases-alone::render_literal
decreases-alone::render_literal g l = 16 * l.fuel + 10

abbrev pub decreases-alone::render_inner : goal.decreases-alone::render_inner
decreases-alone::render_inner g l = 16 * l.fuel + 10

abbrev pub decreases-section::render_section : goal.decreases-section::render_section
decreases-section::render_section g l = 16 * l.fuel + 10

abbrev pub decreases-section::render_section_named : goal.decreases-section::render_section_named
decreases-section::render_section_named g l = 16 * l.fuel + 9

abbrev pub decreases-alone::render_named : goal.decreases-alone::render_named
decreases-alone::render_named g l = 16 * l.fuel + 9

abbrev pub decreases-alone::render_value : goal.decreases-alone::render_value
decreases-alone::render_value g l = 16 * l.fuel + 9

abbrev pub decreases-section::render_section_at : goal.decreases-section::render_section_at
decreases-section::render_section_at g l = 16 * l.fuel + 8

abbrev pub decreases-alone::render_target : goal.decreases-alone::render_target
decreases-alone::render_target g l = 16 * l.fuel + 8

abbrev pub decreases-alone::render_missing : goal.decreases-alone::render_missing
decreases-alone::render_missing g l = 16 * l.fuel + 8

abbrev pub decreases-include::render_partial : goal.decreases-include::render_partial
decreases-include::render_partial g l = 16 * l.fuel + 8

abbrev pub decreases-call::render_next : goal.decreases-call::render_next
decreases-call::render_next g l = 16 * l.fuel + 7

abbrev pub decreases-include::include : goal.decreases-include::include
decreases-include::include g l = 16 * l.fuel + 7

abbrev pub decreases-steps::take_steps : goal.decreases-steps::take_steps
decreases-steps::take_steps g l = 16 * l.fuel + 6

abbrev pub decreases-include::include_local : goal.decreases-include::include_local
decreases-include::include_local g l = 16 * l.fuel + 6

abbrev pub decreases-include::include_other : goal.decreases-include::include_other
decreases-include::include_other g l = 16 * l.fuel + 6

abbrev pub decreases-iteration::render_each : goal.decreases-iteration::render_each
decreases-iteration::render_each g l = 16 * l.fuel + 5

abbrev pub decreases-steps::take_step : goal.decreases-steps::take_step
decreases-steps::take_step g l = 16 * l.fuel + 5

abbrev pub decreases-include::include_tree : goal.decreases-include::include_tree
decreases-include::include_tree g l = 16 * l.fuel + 5

abbrev pub decreases-iteration::render_in_frame : goal.decreases-iteration::render_in_frame
decreases-iteration::render_in_frame g l = 16 * l.fuel + 4

abbrev pub decreases-iteration::render_with : goal.decreases-iteration::render_with
decreases-iteration::render_with g l = 16 * l.fuel + 4

abbrev pub decreases-iteration::run_iterations : goal.decreases-iteration::run_iterations
decreases-iteration::run_iterations g l = 16 * l.fuel + 4

abbrev pub decreases-include::include_at : goal.decreases-include::include_at
decreases-include::include_at g l = 16 * l.fuel + 4

abbrev pub decreases-iteration::render_at_node : goal.decreases-iteration::render_at_node
decreases-iteration::render_at_node g l = 16 * l.fuel + 3

abbrev pub decreases-iteration::render_at_value : goal.decreases-iteration::render_at_value
decreases-iteration::render_at_value g l = 16 * l.fuel + 3

abbrev pub decreases-iteration::render_iteration : goal.decreases-iteration::render_iteration
decreases-iteration::render_iteration g l = 16 * l.fuel + 3

abbrev pub decreases-iteration::render_in : goal.decreases-iteration::render_in
decreases-iteration::render_in g l = 16 * l.fuel + 2

abbrev pub decreases-tree::render_part : goal.decreases-tree::render_part
decreases-tree::render_part g l = 16 * l.fuel + 1

abbrev pub decreases-include::render_under : goal.decreases-include::render_under
decreases-include::render_under g l = 16 * l.fuel + 1

abbrev pub decreases-include::render_ahead : goal.decreases-include::render_ahead
decreases-include::render_ahead g l = 16 * l.fuel + 1

abbrev pub decreases-include::render_captured : goal.decreases-include::render_captured
decreases-include::render_captured g l = 16 * l.fuel + 1

abbrev pub decreases-tree::render_tree : goal.decreases-tree::render_tree
decreases-tree::render_tree g l = 16 * l.fuel

-- Each nested tree leaves one less of the fuel. From one tree to the next the functions follow in this order.

abbrev pub invariant-tree::render_tree-elements : goal.invariant-tree::render_tree-elements
invariant-tree::render_tree-elements g l = record {
  left : (at : TreeOccurrence) → KnowsAround g.T.OutputMode.mode.asks l.environment at → (captured : CapturedIn (within l.environment))
      → Captures g.T.OutputMode.mode.asks captured
      → Left (setting_in g.P.Registered.parts l.environment) g.T.OutputMode.mode.may_give at (map element_view l.element-items)
      (map position_of (out-Template l.template).mapping.items) l.index
      (moment captured l.initial.run (held_in g.T.OutputMode.mode l.initial.sink)) (moment captured l.run (held_in g.T.OutputMode.mode l.sink));
  same : IsSame l.initial.sink l.sink;
  unchanged : IsUnchanged l.initial.run l.run;
}

abbrev pub invariant-steps::take_steps-steps : goal.invariant-steps::take_steps-steps
invariant-steps::take_steps-steps g l = record {
  number : ℕ;
  left : (occurrence : Occurrence) → KnowsLocation g.T.OutputMode.mode.asks l.environment l.at occurrence → (block : Bool) (v : CallView)
      (captured : CapturedIn (within l.environment)) → Captures g.T.OutputMode.mode.asks captured
      → StepsLeft (setting_in g.P.Registered.parts l.environment) g.T.OutputMode.mode.may_give
      occurrence number (view_with_bodies block (call_view l.helper) v) (map step_of (into_iter_items l.initial.step-iterator))
      (map step_of (into_iter_items l.step-iterator))
      (moment captured l.initial.run (held_in g.T.OutputMode.mode l.initial.sink)) (moment captured l.run (held_in g.T.OutputMode.mode l.sink));
  sized : into_iter_len l.step-iterator ≡ length (into_iter_items l.step-iterator);
  same : IsSame l.initial.sink l.sink;
  unchanged : IsUnchanged l.initial.run l.run;
}

-- Each nested tree leaves one less of the fuel. From one tree to the next the functions follow in this order.

-- ---- iterations and inclusions

abbrev pub invariant-iteration::run_iterations-iterations : goal.invariant-iteration::run_iterations-iterations
invariant-iteration::run_iterations-iterations g l = record {
  number : ℕ;
  here : List Frame;
  frame : IsFrame (partials_of l.run.partials) (chain_of l.environment.innermost.nearest.now) l.route
      (call_binding (call_view l.helper)) (has_keys (view l.value)) here;
  left : (occurrence : Occurrence) → KnowsElement g.T.OutputMode.mode.asks l.environment occurrence → (block : Bool) (v : CallView)
      (captured : CapturedIn (within l.environment)) → Captures g.T.OutputMode.mode.asks captured
      → IterationsLeft (setting_in g.P.Registered.parts l.environment) g.T.OutputMode.mode.may_give
      occurrence number (view_with_bodies block (call_view l.helper) v) (path_of l.route) (iterations_left l.initial.left)
      (iterations_left l.left)
      (moment_at (push_frame empty_frame (state_with captured l.initial.run)) (held_in g.T.OutputMode.mode l.initial.sink))
      (moment_at (state_in captured here l.run) (held_in g.T.OutputMode.mode l.sink));
  members : AllMembers (view l.value) (iterations_left l.left);
  keyed : AllKeyed (has_keys (view l.value)) (iterations_left l.left);
  same : IsSame l.initial.sink l.sink;
  unchanged : IsUnchanged l.initial.run l.run;
}

abbrev pub decreases-iteration::run_iterations-iterations : goal.decreases-iteration::run_iterations-iterations
decreases-iteration::run_iterations-iterations g l = length (iterations_left l.left)
