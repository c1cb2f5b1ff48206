use Rattle.std.proofs.Common.{rules, ◌∙◌, ◌+◌, refl, sym, ap, map, length, arith, option_map, true, false, [], None, Some, Ok, Err, subst, ◌≡◌, ◌∷◌}
use Rattle.std.specs.Prelude.{slice_get, string_bytes}
use Rattle.std.specs.Cow.{cow_str_bytes}
use Rattle.handlebars_base.specs.RenderRefusals.{location_of}
use Rattle.handlebars_template.specs.Tree.{Tree, tree_name, call_name, name, decorator_args, decorator_marks, decorator_name}
use Rattle.handlebars_template.specs.TreeView.{call_view, decorator_view, element_view, position_of, tree_view, param_view}
use Rattle.handlebars_template.proofs.Levels.{element_view-Comment, element_view-DecoratorBlock, element_view-DecoratorExpression, element_view-Expression, element_view-HelperBlock, element_view-PartialBlock, element_view-PartialExpression, element_view-RawString, call_name-view, param_view-Literal, param_view-Name, param_view-Path, param_view-Subexpression}
use Rattle.handlebars_template.proofs.Trees.{tree_view-out}
use Rattle.handlebars_scope.specs.LineState.{LineState}
use Rattle.handlebars_scope.specs.LineView.{line_of}
use Rattle.handlebars_scope.specs.Scopes.{at_path, at_value, empty_frame}
use Rattle.handlebars_helpers.specs.UserView.{step_of}
use Rattle.handlebars_semantics.specs.Execute.{view_with_bodies}
use Rattle.handlebars_semantics.specs.Means.{render_call, render_decorator, render_found, render_helped, render_lone_as, include_tag, line_at, on_line}
use Rattle.handlebars_semantics.specs.Occurrences.{as_part, body_at, element_in, inverse_at, as_iteration, included_at, the_included}
use Rattle.handlebars_semantics.specs.Pieces.{of_text}
use Rattle.handlebars_semantics.specs.Runs.{named_as}
use Rattle.handlebars_semantics.specs.State.{State, nearest_variables, push_frame}
use Rattle.handlebars_expand.specs.Boxed.{answer_of, error_of}
use Rattle.handlebars_expand.specs.declared.boxed.BoxedError.TheVariants.{OutOfMemory}
use Rattle.handlebars_values.specs.View.{state_with, setting_in, frames_in_run, called_view, within}
use Rattle.handlebars_write.proofs.Elements.{left_ends, left_goes, left_over, left_starts, whole_with}
use Rattle.handlebars_write.proofs.Refinement.{refines-run, refines_prog-done, refines_prog-no_memory, refines_prog-puts, refines_prog-step, refines_prog-task, refines_prog-task_over, refines_prog-without_escaping, refines_prog-in_block, refines_prog-no_value}
use Rattle.handlebars_write.proofs.Sinks.{same-refl, same-trans}
use Rattle.handlebars_write.proofs.UserSteps.{nothing_left, steps-end, steps-go, steps-over}
use Rattle.handlebars_elements.specs.Left.{left_in_call, left_of, part_view, then_out}
use Rattle.handlebars_elements.specs.declared.next.Next.TheVariants.{Section}
use Rattle.handlebars_elements.proofs.Leaving.{refines_prog-called, refines_prog-leads, section_rendered, refines_prog-then_out}
use Rattle.handlebars_elements.proofs.Lists.{below-seen, get_or-seen, over-seen, positioned_marks}
use Rattle.handlebars_elements.proofs.Parts.{body-seen, inverse-seen}
use Rattle.handlebars_elements.proofs.RunChanges.{state-changed, unchanged-by, unchanged-refl, unchanged-trans}
use Rattle.handlebars_elements.proofs.Silent.{refines_prog-does}
use Rattle.handlebars_elements.proofs.Trees.{element-around, element-known, memory-marks, text-from}
use Rattle.serde_json.specs.View.{view}
use Rattle.handlebars_base.specs.Answers.{gives}
use Rattle.handlebars_base.specs.Bytes.{Text}
use Rattle.handlebars_base.specs.PathView.{reference_of}
use Rattle.handlebars_base.specs.Path.{raw_of}
use Rattle.handlebars_base.specs.Scoped.{missing}
use Rattle.handlebars_semantics.specs.Values.{HasName}
use Rattle.handlebars_expand.specs.Targets.{target_in}
use Rattle.handlebars_expand.specs.View.{name_alone}
use Rattle.handlebars_expand.proofs.LoneValues.{lacks-name, named-inner, named-literal, named-name, named-path, unnamed-inner, valued-inner, valued-literal}
use Rattle.handlebars_values.specs.ParamView.{value_found}
use Rattle.handlebars_elements.proofs.LoneCalls.{comes-then, in_call-alone, inner-unwritten, literal-unwritten, lone-helped, lone-unnamed, section-by-name, section-by-no-path, section-by-path, value-lacks, value-missing, value-there}
use Rattle.handlebars_elements.proofs.SectionCalls.{name_view, section-failed}
use Rattle.handlebars_semantics.specs.Asks.{first_fails}
use Rattle.handlebars_semantics.specs.Writing.{rendered_if_any}
use Rattle.handlebars_elements.proofs.InnerValues.{inner-unwalked}
use Rattle.handlebars_scope.specs.ScopeView.{frame_of}
use Rattle.handlebars_helpers.specs.Iterations.{with_frame}
use Rattle.handlebars_helpers.specs.View.{iteration_view}
use Rattle.handlebars_layers.specs.Destination.{route_names}
use Rattle.handlebars_layers.specs.LayerView.{chain_of, descent_names, names_seen}
use Rattle.handlebars_layers.specs.Layering.{bound_names}
use Rattle.handlebars_layers.specs.PartialsView.{partials_of}
use Rattle.handlebars_write.proofs.Iterations.{iterations-end, iterations-go, iterations-over, refines_prog-iteration}
use Rattle.handlebars_write.proofs.Includes.{begins-empty, refines_ahead-captured, refines_ahead-over}
use Rattle.handlebars_elements.specs.Iterating.{iteration_in}
use Rattle.handlebars_elements.proofs.InLayers.{and-pop, binding-seen, in-frame, in-with, pops, pushes, refines-nearer, unchanged-around, with-node, with-value, frame-entered, state_in}
use Rattle.handlebars_elements.proofs.Iterations.{around-within, around-iteration, each-over, path_of, set-frame, next-frame-in, entered-frame, keyed-first, keyed-rest, members-first, members-rest, lead-iteration}
use Rattle.handlebars_semantics.specs.Inclusion.{hash_data, newest}
use Rattle.handlebars_semantics.specs.Including.{render_ahead}
use Rattle.handlebars_semantics.specs.Steps.{ask}
use denote.Ref.{Bor}
use Rattle.handlebars_semantics.specs.Questions.{view_of}
use Rattle.handlebars_layers.specs.Chain.{outer_chain}
use Rattle.handlebars_layers.specs.FrameValues.{hash_values}
use Rattle.handlebars_layers.specs.declared.layer.Layer.{Layer}
use Rattle.handlebars_expand.proofs.Asked.{fails-ask}
use Rattle.handlebars_values.specs.RunView.{run_state}
use Rattle.handlebars_write.proofs.Includes.{captured-more, captured-no, captured-none, captured-own, captured-written, includes-captured, includes-local, includes-self, inclusion-ahead, inclusion-ahead_over, inclusion-limit_reached, inclusion-no_value, inclusion-plain, state_in_inclusion, tag-includes}
use Rattle.handlebars_elements.specs.Tags.{including_view}
use Rattle.handlebars_elements.specs.View.{IsUnchanged}
use Rattle.handlebars_elements.proofs.Inclusions.{ahead-nearer, around-included, begins-inclusion, ends-inclusion, includes-other, left-name, other-none, other-own, other-registered, prog-nearer, starts-inclusion, tag-shown, taken-name, unchanged-named, unchanged-then}
use Rattle.handlebars_elements.proofs.+render.Goals.{include::include_at-in-Some-body+in-Ok, include::include_at-in-Some-body+in-Err, include::include_at-in-None}
use Rattle.handlebars_elements.proofs.+render.Goals as goal

-- ---- trees

pub tree::render_tree-returns-in_default-clause-renders : goal.tree::render_tree-returns-in_default-clause-renders
tree::render_tree-returns-in_default-clause-renders g t c = λ at location captured captures. refines_prog-no_memory _ _ (error_of OutOfMemory) refl

pub tree::render_tree-returns-in-Err-clause-renders : goal.tree::render_tree-returns-in-Err-clause-renders
tree::render_tree-returns-in-Err-clause-renders g t c = λ at location captured captures. refines_prog-no_memory _ _ (error_of OutOfMemory) refl

pub tree::render_tree-returns-in-Err-clause-stays : goal.tree::render_tree-returns-in-Err-clause-stays
tree::render_tree-returns-in-Err-clause-stays g t c = record {
  unchanged = unchanged-by c.enter.new.self c.args.run.now (λ s. s) (λ s. refl) (λ s. refl) c.in-Err.ensures.err;
  same = same-refl _;
}

pub tree::render_tree-elements-init : goal.tree::render_tree-elements-init
tree::render_tree-elements-init g t c = record { left = λ at location captured captures. left_starts _ _ at _ _ _; same = same-refl _; unchanged = unchanged-refl _ }

pub tree::render_tree-elements-preserved : goal.tree::render_tree-elements-preserved
tree::render_tree-elements-preserved g t c = record {
  left = λ at location captured captures. left_goes _ _ at (map element_view c.deref-element-items.result.now) (map position_of c.args.template.now.mapping.items)
      c.elements.index (element_view c.element-item.result) (element_view c.element-item.result) _ _ _
      (below-seen element_view c.deref-element-items.result.now c.elements.index c.elements-test.true)
      (get_or-seen element_view c.deref-element-items.result.now c.elements.index c.element-item.result c.element-item.is)
      (c.elements.invariant.left at location captured captures)
      (refines-run _ _ (c.in-Done.ensures.renders (element_in at c.elements.index (slice_get (map position_of c.args.template.now.mapping.items) c.elements.index)) (element-known at _ refl refl location) captured captures));
  same = same-trans _ _ _ c.elements.invariant.same c.in-Done.ensures.stays.same;
  unchanged = unchanged-trans c.elements.invariant.unchanged c.in-Done.ensures.stays.unchanged;
}

pub tree::render_tree-returns-in-OutOfMemory-clause-renders : goal.tree::render_tree-returns-in-OutOfMemory-clause-renders
tree::render_tree-returns-in-OutOfMemory-clause-renders g t c = λ at location captured captures.
    let e = error_of OutOfMemory in
    refines_prog-task_over _ _ e e (memory-marks _ e refl)
    (rw (tree_view-out c.args.template.now) (whole_with _ _ at _ _ _
    (state-changed captured c.enter.new.self c.args.run.now (λ (s : State). record s { current = option_map string_bytes c.args.template.now.name })
    c.in-Ok.ensures.partials c.in-Ok.ensures.ok) (rw (sym c.deref-element-items.ensures.value)
    (left_over _ _ at (map element_view c.deref-element-items.result.now) (map position_of c.args.template.now.mapping.items)
    c.elements.index (element_view c.element-item.result) (element_view c.element-item.result) _ _ _ e e
    (below-seen element_view c.deref-element-items.result.now c.elements.index c.elements-test.true)
    (get_or-seen element_view c.deref-element-items.result.now c.elements.index c.element-item.result c.element-item.is)
    (c.elements.invariant.left at location captured captures)
    (memory-marks _ e refl)
    (refines-run _ _ (c.in-OutOfMemory.ensures.renders (element_in at c.elements.index (slice_get (map position_of c.args.template.now.mapping.items) c.elements.index))
    (element-known at _ refl refl location) captured captures))))))

pub tree::render_tree-returns-in-OutOfMemory-clause-stays : goal.tree::render_tree-returns-in-OutOfMemory-clause-stays
tree::render_tree-returns-in-OutOfMemory-clause-stays g t c = record {
  unchanged = unchanged-trans (unchanged-by c.enter.new.self c.args.run.now (λ (s : State). record s { current = option_map string_bytes c.args.template.now.name })
      (λ s. refl) (λ s. refl) c.in-Ok.ensures.ok) (unchanged-trans c.elements.invariant.unchanged c.in-OutOfMemory.ensures.stays.unchanged);
  same = same-trans _ _ _ c.elements.invariant.same c.in-OutOfMemory.ensures.stays.same;
}

pub tree::render_tree-returns-in-Error-clause-renders : goal.tree::render_tree-returns-in-Error-clause-renders
tree::render_tree-returns-in-Error-clause-renders g t c = λ at location captured captures.
    let e = c.in-Error.e.value in
    let l = c.located.ensures in
    rw l.answer
    (refines_prog-task_over _ _ l.of_element l.of_tree
    (record {
      location = λ other. l.named other ∙ ap (λ (z : Tree). named_as (tree_name z) (location_of l.of_element)) (sym (tree_view-out c.args.template.now));
      cause = l.same_cause;
      memory = l.memory;
    })
    (rw (tree_view-out c.args.template.now) (whole_with _ _ at _ _ _
    (state-changed captured c.enter.new.self c.args.run.now (λ (s : State). record s { current = option_map string_bytes c.args.template.now.name })
    c.in-Ok.ensures.partials c.in-Ok.ensures.ok) (rw (sym c.deref-element-items.ensures.value)
    (left_over _ _ at (map element_view c.deref-element-items.result.now) (map position_of c.args.template.now.mapping.items)
    c.elements.index (element_view c.element-item.result) (element_view c.element-item.result) _ _ _ e l.of_element
    (below-seen element_view c.deref-element-items.result.now c.elements.index c.elements-test.true)
    (get_or-seen element_view c.deref-element-items.result.now c.elements.index c.element-item.result c.element-item.is)
    (c.elements.invariant.left at location captured captures)
    (positioned_marks _ _ _ _ l.positioned l.cause)
    (refines-run _ _ (c.in-Error.ensures.renders (element_in at c.elements.index (slice_get (map position_of c.args.template.now.mapping.items) c.elements.index))
    (element-known at _ refl refl location) captured captures)))))))

pub tree::render_tree-returns-in-Error-clause-stays : goal.tree::render_tree-returns-in-Error-clause-stays
tree::render_tree-returns-in-Error-clause-stays g t c = record {
  unchanged = unchanged-trans (unchanged-by c.enter.new.self c.args.run.now (λ (s : State). record s { current = option_map string_bytes c.args.template.now.name })
      (λ s. refl) (λ s. refl) c.in-Ok.ensures.ok) (unchanged-trans c.elements.invariant.unchanged c.in-Error.ensures.stays.unchanged);
  same = same-trans _ _ _ c.elements.invariant.same c.in-Error.ensures.stays.same;
}

pub tree::render_tree-returns-clause-renders : goal.tree::render_tree-returns-clause-renders
tree::render_tree-returns-clause-renders g t c = λ at location captured captures. refines_prog-task _ _
    (rw (tree_view-out c.args.template.now) (whole_with _ _ at _ _ _
    (state-changed captured c.enter.new.self c.args.run.now (λ (s : State). record s { current = option_map string_bytes c.args.template.now.name })
    c.in-Ok.ensures.partials c.in-Ok.ensures.ok) (rw (sym c.deref-element-items.ensures.value)
    (left_ends _ _ at (map element_view c.deref-element-items.result.now) (map position_of c.args.template.now.mapping.items) c.elements.index _ _
    (over-seen element_view c.deref-element-items.result.now c.elements.index c.elements-test.false) (c.elements.invariant.left at location captured captures)))))

pub tree::render_tree-returns-clause-stays : goal.tree::render_tree-returns-clause-stays
tree::render_tree-returns-clause-stays g t c = record {
  unchanged = unchanged-trans (unchanged-by c.enter.new.self c.args.run.now (λ (s : State). record s { current = option_map string_bytes c.args.template.now.name })
      (λ s. refl) (λ s. refl) c.in-Ok.ensures.ok) c.elements.invariant.unchanged;
  same = c.elements.invariant.same;
}

pub tree::render_part-returns-in-Some-clause-renders : goal.tree::render_part-returns-in-Some-clause-renders
tree::render_part-returns-in-Some-clause-renders g t c = λ at location captured captures. rw c.in-Some.is (c.render_tree.ensures.renders at location captured captures)

pub tree::render_part-returns-in-None-clause-renders : goal.tree::render_part-returns-in-None-clause-renders
tree::render_part-returns-in-None-clause-renders g t c = λ at location captured captures. rw c.in-None.is (refines_prog-done _ _)

-- ---- elements

pub element::render_element-returns-in-RawString-clause-renders : goal.element::render_element-returns-in-RawString-clause-renders
element::render_element-returns-in-RawString-clause-renders g t c = λ occurrence location captured captures. rw (c.in-RawString.is, element_view-RawString)
    (refines_prog-puts _ _ (of_text occurrence) _ (rw c.as_str.ensures.value at
    (c.put_text.ensures.puts (of_text occurrence) (text-from location) (state_with captured c.args.run.now) (sym location.indent) refl)))

pub element::render_element-returns-in-Expression-clause-renders : goal.element::render_element-returns-in-Expression-clause-renders
element::render_element-returns-in-Expression-clause-renders g t c = λ occurrence location captured captures. rw (c.in-Expression.is, element_view-Expression)
    (rw c.deref.ensures at (c.render_expression.ensures.renders occurrence location captured captures))

pub element::render_element-returns-in-HelperBlock-clause-renders : goal.element::render_element-returns-in-HelperBlock-clause-renders
element::render_element-returns-in-HelperBlock-clause-renders g t c = λ occurrence location captured captures. rw (c.in-HelperBlock.is, element_view-HelperBlock)
    (rw c.deref-in-HelperBlock.ensures at (c.render_call.ensures.renders occurrence location captured captures))

pub element::render_element-returns-in-Comment-clause-renders : goal.element::render_element-returns-in-Comment-clause-renders
element::render_element-returns-in-Comment-clause-renders g t c = λ occurrence location captured captures. rw (c.in-Comment.is, element_view-Comment) (refines_prog-done _ _)

pub element::render_element-returns-in-DecoratorExpression-clause-renders : goal.element::render_element-returns-in-DecoratorExpression-clause-renders
element::render_element-returns-in-DecoratorExpression-clause-renders g t c = λ occurrence location captured captures. rw (c.in-DecoratorExpression.is, element_view-DecoratorExpression, c.of.ensures)
    (refines_prog-does _ _ (render_decorator (decorator_view c.in-DecoratorExpression.tag.value)) (answer_of c.render_decorator.result)
    (rw c.deref-in-DecoratorExpression.ensures at (c.render_decorator.ensures.does captured)))

pub element::render_element-returns-in-DecoratorBlock-clause-renders : goal.element::render_element-returns-in-DecoratorBlock-clause-renders
element::render_element-returns-in-DecoratorBlock-clause-renders g t c = λ occurrence location captured captures. rw (c.in-DecoratorBlock.is, element_view-DecoratorBlock, c.of-in-DecoratorBlock.ensures)
    (refines_prog-does _ _ (render_decorator (decorator_view c.in-DecoratorBlock.tag.value)) (answer_of c.render_decorator-in-DecoratorBlock.result)
    (rw c.deref-in-DecoratorBlock.ensures at (c.render_decorator-in-DecoratorBlock.ensures.does captured)))

pub element::render_element-returns-in-PartialExpression-clause-renders : goal.element::render_element-returns-in-PartialExpression-clause-renders
element::render_element-returns-in-PartialExpression-clause-renders g t c = λ occurrence location captured captures. rw (c.in-PartialExpression.is, element_view-PartialExpression)
    (rw c.deref-in-PartialExpression.ensures at (c.render_partial.ensures.renders occurrence (element-around location) captured captures))

pub element::render_element-returns-in-PartialBlock-clause-renders : goal.element::render_element-returns-in-PartialBlock-clause-renders
element::render_element-returns-in-PartialBlock-clause-renders g t c = λ occurrence location captured captures. rw (c.in-PartialBlock.is, element_view-PartialBlock)
    (rw c.deref-in-PartialBlock.ensures at (c.render_partial-in-PartialBlock.ensures.renders occurrence (element-around location) captured captures))

pub element::render_unescaped-returns-clause-renders : goal.element::render_unescaped-returns-clause-renders
element::render_unescaped-returns-clause-renders g t c = λ occurrence location captured captures.
    refines_prog-without_escaping _ _ _ refl refl (c.render_expression-outcome.ensures.renders occurrence location captured captures)

-- ---- steps of user-defined helpers

pub steps::take_step-returns-in-Write-clause-renders : goal.steps::take_step-returns-in-Write-clause-renders
steps::take_step-returns-in-Write-clause-renders g t c = λ occurrence location i block v captured captures. rw c.in-Write.is
    (refines_prog-step _ _ occurrence i _ (rw c.as_str.ensures.value at (c.put_step.ensures.writes occurrence location.location i (state_with captured c.args.run.now))))

pub steps::take_step-returns-in-Body-clause-renders : goal.steps::take_step-returns-in-Body-clause-renders
steps::take_step-returns-in-Body-clause-renders g t c = λ occurrence location i block v captured captures. rw c.in-Body.is
    (rw (body-seen c.args.helper.now c.as_ref.result c.as_ref.ensures.value) at (c.render_part.ensures.renders (body_at occurrence (as_part i)) (element-around location) captured captures))

pub steps::take_step-returns-in-Inverse-clause-renders : goal.steps::take_step-returns-in-Inverse-clause-renders
steps::take_step-returns-in-Inverse-clause-renders g t c = λ occurrence location i block v captured captures. rw c.in-Inverse.is
    (rw (inverse-seen c.args.helper.now c.as_ref-in-Inverse.result c.as_ref-in-Inverse.ensures.value)
    at (c.render_part-in-Inverse.ensures.renders (inverse_at occurrence i) (element-around location) captured captures))

pub steps::take_step-returns-in-BodyIn-clause-renders : goal.steps::take_step-returns-in-BodyIn-clause-renders
steps::take_step-returns-in-BodyIn-clause-renders g t c = λ occurrence location i block v captured captures. rw c.in-BodyIn.is
    (c.render_in_frame.ensures.renders occurrence (element-around location) i block v captured captures)

pub steps::take_steps-steps-init : goal.steps::take_steps-steps-init
steps::take_steps-steps-init g t c = record {
  number = 0;
  left = λ occurrence location block v captured captures next r last d. d;
  sized = c.into_iter-step-iterator.ensures.into_iter_gives.1 ∙ c.args.steps.ok.0
      ∙ ap length (sym c.into_iter-step-iterator.ensures.into_iter_gives.0);
  same = same-refl _;
  unchanged = unchanged-refl _;
}

pub steps::take_steps-steps-preserved : goal.steps::take_steps-steps-preserved
steps::take_steps-steps-preserved g t c =
    let was = c.steps.invariant.sized in
    let gone = c.in-Some.ensures.steps.1 in
    let short = ap length c.in-Some.ensures.steps.0 in
    record {
      number = c.steps.invariant.number + 1;
      left = λ occurrence location block v captured captures.
          steps-go _ _ occurrence c.steps.invariant.number (view_with_bodies block (call_view c.args.helper.now) v) _
          (ap (map step_of) c.in-Some.ensures.steps.0) (c.steps.invariant.left occurrence location block v captured captures)
          (c.in-Done.ensures.renders occurrence location c.steps.invariant.number block v captured captures);
      sized = omega arith;
      same = same-trans _ _ _ c.steps.invariant.same c.in-Done.ensures.stays.same;
      unchanged = unchanged-trans c.steps.invariant.unchanged c.in-Done.ensures.stays.unchanged;
    }

pub steps::take_steps-returns-in-OutOfMemory-clause-renders : goal.steps::take_steps-returns-in-OutOfMemory-clause-renders
steps::take_steps-returns-in-OutOfMemory-clause-renders g t c = λ occurrence location block v captured captures.
    rw (sym c.into_iter-step-iterator.ensures.into_iter_gives.0)
    (steps-over _ _ occurrence c.steps.invariant.number (view_with_bodies block (call_view c.args.helper.now) v) _
    (ap (map step_of) c.in-Some.ensures.steps.0) (c.steps.invariant.left occurrence location block v captured captures)
    (c.in-OutOfMemory.ensures.renders occurrence location c.steps.invariant.number block v captured captures))

pub steps::take_steps-returns-in-OutOfMemory-clause-stays : goal.steps::take_steps-returns-in-OutOfMemory-clause-stays
steps::take_steps-returns-in-OutOfMemory-clause-stays g t c = record {
  unchanged = unchanged-trans c.steps.invariant.unchanged c.in-OutOfMemory.ensures.stays.unchanged;
  same = same-trans _ _ _ c.steps.invariant.same c.in-OutOfMemory.ensures.stays.same;
}

pub steps::take_steps-returns-in-Error-clause-renders : goal.steps::take_steps-returns-in-Error-clause-renders
steps::take_steps-returns-in-Error-clause-renders g t c = λ occurrence location block v captured captures.
    rw (sym c.into_iter-step-iterator.ensures.into_iter_gives.0)
    (steps-over _ _ occurrence c.steps.invariant.number (view_with_bodies block (call_view c.args.helper.now) v) _
    (ap (map step_of) c.in-Some.ensures.steps.0) (c.steps.invariant.left occurrence location block v captured captures)
    (c.in-Error.ensures.renders occurrence location c.steps.invariant.number block v captured captures))

pub steps::take_steps-returns-in-Error-clause-stays : goal.steps::take_steps-returns-in-Error-clause-stays
steps::take_steps-returns-in-Error-clause-stays g t c = record {
  unchanged = unchanged-trans c.steps.invariant.unchanged c.in-Error.ensures.stays.unchanged;
  same = same-trans _ _ _ c.steps.invariant.same c.in-Error.ensures.stays.same;
}

pub steps::take_steps-returns-clause-renders : goal.steps::take_steps-returns-clause-renders
steps::take_steps-returns-clause-renders g t c = λ occurrence location block v captured captures.
    rw (sym c.into_iter-step-iterator.ensures.into_iter_gives.0)
    (steps-end _ _ occurrence c.steps.invariant.number (view_with_bodies block (call_view c.args.helper.now) v) _
    (ap (map step_of) (nothing_left _ (sym c.steps.invariant.sized ∙ c.in-None.ensures.steps.0)))
    (c.steps.invariant.left occurrence location block v captured captures))

pub steps::take_steps-returns-clause-stays : goal.steps::take_steps-returns-clause-stays
steps::take_steps-returns-clause-stays g t c = record { unchanged = c.steps.invariant.unchanged; same = c.steps.invariant.same }

-- ---- calls

pub call::render_next-returns-in-Nothing-clause-renders : goal.call::render_next-returns-in-Nothing-clause-renders
call::render_next-returns-in-Nothing-clause-renders g t c = λ occurrence location block v captured captures. rw c.in-Nothing.is (refines_prog-done _ _)

pub call::render_call-returns-in-Err-clause-renders : goal.call::render_call-returns-in-Err-clause-renders
call::render_call-returns-in-Err-clause-renders g t c = λ occurrence location captured captures.
    rw c.from.ensures (c.in-Err.ensures.leads occurrence location captured).1

pub call::render_call-returns-then-is_section-clause-renders : goal.call::render_call-returns-then-is_section-clause-renders
call::render_call-returns-then-is_section-clause-renders g t c = λ occurrence location captured captures.
    let is = c.is_section.ensures.section c.if-is_section.true in
    let left = rw is at (c.in-Ok.ensures.leads occurrence location captured) in
    let section = rw is at (c.in-Ok.ensures.section captured) in
    refines_prog-leads _ _ (render_call occurrence c.args.block (call_view c.args.helper.now))
    (left_in_call occurrence c.args.block (call_view c.args.helper.now) left.0 (line_of c.args.run.now.line)) Section left.1
    (section_rendered _ _ occurrence c.args.block (call_view c.args.helper.now) section.0
    (c.render_section.ensures.renders occurrence location captured captures section.1))

pub call::render_call-returns-else-is_section-clause-renders : goal.call::render_call-returns-else-is_section-clause-renders
call::render_call-returns-else-is_section-clause-renders g t c = λ occurrence location captured captures.
    let left = c.in-Ok.ensures.leads occurrence location captured in
    refines_prog-called _ _ occurrence c.args.block (call_view c.args.helper.now) left.0 (line_of c.args.run.now.line) c.in-Ok.next
    (c.is_section.ensures.other c.if-is_section.false) left.1
    (ap (λ (l : LineState). record (state_with captured c.render_next-outcome.new.run) { line = l }) c.line_out-run.ensures)
    (c.render_next-outcome.ensures.renders occurrence location c.args.block left.0 captured captures)

-- ---- expressions without parameters, and sections

pub alone::render_lone_element-returns-in-Path-clause-renders : goal.alone::render_lone_element-returns-in-Path-clause-renders
alone::render_lone_element-returns-in-Path-clause-renders g u c = λ occurrence location alone.
    c.render_path.ensures.renders occurrence location alone (call_name-view c.args.helper.now ∙ ap param_view c.in-Path.is ∙ param_view-Path _)

pub alone::render_lone_element-returns-in-Literal-clause-renders : goal.alone::render_lone_element-returns-in-Literal-clause-renders
alone::render_lone_element-returns-in-Literal-clause-renders g u c = λ occurrence location alone.
    c.render_literal.ensures.renders occurrence location alone (call_name-view c.args.helper.now ∙ ap param_view c.in-Literal.is ∙ param_view-Literal _)

pub alone::render_lone_element-returns-in-Subexpression-clause-renders : goal.alone::render_lone_element-returns-in-Subexpression-clause-renders
alone::render_lone_element-returns-in-Subexpression-clause-renders g u c = λ occurrence location alone.
    c.render_inner.ensures.renders occurrence location alone
    (call_name-view c.args.helper.now ∙ ap param_view c.in-Subexpression.is ∙ param_view-Subexpression _)

pub alone::render_path-returns-in-Some-clause-renders : goal.alone::render_path-returns-in-Some-clause-renders
alone::render_path-returns-in-Some-clause-renders g u c = λ occurrence location alone is captured captures.
    let call = call_view c.args.helper.now in
    let t = c.raw-name.result.now in
    let has = named-path (setting_in g.P.Registered.parts c.args.environment.now) (state_with captured c.args.run.now) (call_name call)
    (reference_of c.args.path.now) t is c.raw-name.ensures in
    lone-helped _ _ occurrence call t (Some (target_in false t c.in-Some.target)) alone has (c.in-Some.ensures false [])
    (c.render_target.ensures.renders occurrence location alone captured captures has)

pub alone::render_path-returns-in-Done-clause-renders : goal.alone::render_path-returns-in-Done-clause-renders
alone::render_path-returns-in-Done-clause-renders g u c = λ occurrence location alone is captured captures.
    let call = call_view c.args.helper.now in
    let t = raw_of (reference_of c.args.path.now) in
    lone-helped _ _ occurrence call t None alone
    (named-path (setting_in g.P.Registered.parts c.args.environment.now) (state_with captured c.args.run.now) (call_name call)
    (reference_of c.args.path.now) t is refl)
    (rw c.raw-name.ensures at (c.in-None.ensures false [])) (c.in-Done.ensures.writes occurrence location call (name_alone t) is captured)

pub alone::render_path-returns-in-Missing-clause-renders : goal.alone::render_path-returns-in-Missing-clause-renders
alone::render_path-returns-in-Missing-clause-renders g u c = λ occurrence location alone is captured captures.
    let call = call_view c.args.helper.now in
    let t = c.raw-name.result.now in
    lone-helped _ _ occurrence call t None alone
    (named-path (setting_in g.P.Registered.parts c.args.environment.now) (state_with captured c.args.run.now) (call_name call)
    (reference_of c.args.path.now) t is c.raw-name.ensures)
    (c.in-None.ensures false [])
    (comes-then _ _ (render_lone_as occurrence call (name_alone t) None) (render_found occurrence call (name_alone t) missing)
    (c.in-Missing.ensures.writes occurrence location call (name_alone t) is captured)
    (c.render_missing.ensures.renders occurrence location alone captured captures))

pub alone::render_path-returns-in-OutOfMemory-clause-renders : goal.alone::render_path-returns-in-OutOfMemory-clause-renders
alone::render_path-returns-in-OutOfMemory-clause-renders g u c = λ occurrence location alone is captured captures.
    let call = call_view c.args.helper.now in
    let t = raw_of (reference_of c.args.path.now) in
    lone-helped _ _ occurrence call t None alone
    (named-path (setting_in g.P.Registered.parts c.args.environment.now) (state_with captured c.args.run.now) (call_name call)
    (reference_of c.args.path.now) t is refl)
    (rw c.raw-name.ensures at (c.in-None.ensures false [])) (c.in-OutOfMemory.ensures.writes occurrence location call (name_alone t) is captured)

pub alone::render_path-returns-in-Error-clause-renders : goal.alone::render_path-returns-in-Error-clause-renders
alone::render_path-returns-in-Error-clause-renders g u c = λ occurrence location alone is captured captures.
    let call = call_view c.args.helper.now in
    let t = raw_of (reference_of c.args.path.now) in
    lone-helped _ _ occurrence call t None alone
    (named-path (setting_in g.P.Registered.parts c.args.environment.now) (state_with captured c.args.run.now) (call_name call)
    (reference_of c.args.path.now) t is refl)
    (rw c.raw-name.ensures at (c.in-None.ensures false [])) (c.in-Error.ensures.writes occurrence location call (name_alone t) is captured)

pub alone::render_literal-returns-clause-renders : goal.alone::render_literal-returns-clause-renders
alone::render_literal-returns-clause-renders g u c = λ occurrence location alone is captured captures.
    let p = setting_in g.P.Registered.parts c.args.environment.now in
    let s = state_with captured c.args.run.now in
    let q = call_name (call_view c.args.helper.now) in
    let d = view c.args.value.now in
    c.render_value.ensures.renders occurrence location alone captured captures (named-literal p s q d is) (valued-literal p s q d is) refl

pub alone::render_inner-returns-in-Ok-clause-renders : goal.alone::render_inner-returns-in-Ok-clause-renders
alone::render_inner-returns-in-Ok-clause-renders g u c = λ occurrence location alone is captured captures.
    let p = setting_in g.P.Registered.parts c.args.environment.now in
    let s = state_with captured c.args.run.now in
    let q = call_name (call_view c.args.helper.now) in
    let found = value_found c.in-Ok.value in
    let valued = c.in-Ok.ensures.value captured in
    c.render_value.ensures.renders occurrence location alone captured captures
    (named-inner p s q _ found is valued) (valued-inner p s q _ found is valued) (inner-unwalked p s _ found valued)

pub alone::render_inner-returns-in-Err-clause-renders : goal.alone::render_inner-returns-in-Err-clause-renders
alone::render_inner-returns-in-Err-clause-renders g u c = λ occurrence location alone is captured captures.
    rw c.from.ensures (lone-unnamed _ _ occurrence (call_view c.args.helper.now) (error_of c.in-Err.e)
    (λ other. unnamed-inner (setting_in g.P.Registered.parts c.args.environment.now) (state_with captured c.args.run.now)
    (call_name (call_view c.args.helper.now)) _ _ is (c.in-Err.ensures.value captured other)))

pub alone::render_missing-returns-in-Ok-clause-renders : goal.alone::render_missing-returns-in-Ok-clause-renders
alone::render_missing-returns-in-Ok-clause-renders g u c = λ occurrence location alone captured captures.
    let call = call_view c.args.helper.now in
    let t = cow_str_bytes c.args.name in
    refines_prog-leads _ _ (render_found occurrence call (name_alone t) missing) (left_of occurrence (view_with_bodies false call (name_alone t)))
    c.in-Ok.next (c.in-Ok.ensures.leads occurrence location alone captured)
    (c.render_next.ensures.renders occurrence location false (name_alone t) captured captures)

pub alone::render_missing-returns-in-Err-clause-renders : goal.alone::render_missing-returns-in-Err-clause-renders
alone::render_missing-returns-in-Err-clause-renders g u c = λ occurrence location alone captured captures. rw c.from.ensures (c.in-Err.ensures.leads occurrence location alone captured)

pub alone::render_named-returns-in-Some-clause-renders : goal.alone::render_named-returns-in-Some-clause-renders
alone::render_named-returns-in-Some-clause-renders g u c = λ occurrence location alone named captured captures.
    let call = call_view c.args.helper.now in
    let t = cow_str_bytes c.args.name in
    let has = named-name (setting_in g.P.Registered.parts c.args.environment.now) (state_with captured c.args.run.now) (call_name call) t named in
    lone-helped _ _ occurrence call t (Some (target_in false t c.in-Some.target)) alone has
    (rw c.as_str.ensures.value at (c.in-Some.ensures false []))
    (c.render_target.ensures.renders occurrence location alone captured captures has)

pub alone::render_named-returns-in-None-clause-renders : goal.alone::render_named-returns-in-None-clause-renders
alone::render_named-returns-in-None-clause-renders g u c = λ occurrence location alone named captured captures.
    let p = setting_in g.P.Registered.parts c.args.environment.now in
    let s = state_with captured c.args.run.now in
    let call = call_view c.args.helper.now in
    let t = cow_str_bytes c.args.name in
    lone-helped _ _ occurrence call t None alone (named-name p s (call_name call) t named)
    (rw c.as_str.ensures.value at (c.in-None.ensures false []))
    (value-missing _ _ occurrence call (name_alone t) (lacks-name p s (call_name call) t named)
    (c.render_missing.ensures.renders occurrence location alone captured captures))

pub alone::render_target-returns-in-Ok-clause-renders : goal.alone::render_target-returns-in-Ok-clause-renders
alone::render_target-returns-in-Ok-clause-renders g u c = λ occurrence location alone captured captures named.
    let call = call_view c.args.helper.now in
    let t = cow_str_bytes c.args.name in
    let target = target_in false t c.args.target in
    let left = left_of occurrence (view_with_bodies false call (name_alone t)) in
    refines_prog-leads _ _ (render_helped occurrence false call target (name_alone t)) (λ y. then_out (line_of c.args.run.now.line) (left y)) c.in-Ok.next
    (in_call-alone _ _ _ _ _ captured occurrence call t target (Ok c.in-Ok.next) alone (c.in-Ok.ensures.leads occurrence location captured))
    (refines_prog-then_out _ _ (line_of c.args.run.now.line) (left c.in-Ok.next)
    (ap (λ (l : LineState). record (state_with captured c.render_next-outcome.new.run) { line = l }) c.line_out-run.ensures)
    (c.render_next-outcome.ensures.renders occurrence location false (name_alone t) captured captures))

pub alone::render_target-returns-in-Err-clause-renders : goal.alone::render_target-returns-in-Err-clause-renders
alone::render_target-returns-in-Err-clause-renders g u c = λ occurrence location alone captured captures named.
    let t = cow_str_bytes c.args.name in
    rw c.from.ensures (in_call-alone _ _ _ _ _ captured occurrence (call_view c.args.helper.now) t (target_in false t c.args.target) (Err c.in-Err.e) alone
    (c.in-Err.ensures.leads occurrence location captured))

pub alone::render_value-returns-in_default-clause-renders : goal.alone::render_value-returns-in_default-clause-renders
alone::render_value-returns-in_default-clause-renders g u c = λ occurrence location alone captured captures named valued pathless.
    refines_prog-no_memory _ _ (error_of OutOfMemory) refl

pub alone::render_value-returns-in-Some-clause-renders : goal.alone::render_value-returns-in-Some-clause-renders
alone::render_value-returns-in-Some-clause-renders g u c = λ occurrence location alone captured captures named valued pathless.
    let s = state_with captured c.args.run.now in
    let call = call_view c.args.helper.now in
    let t = string_bytes c.in-Ok.name in
    let has : HasName (setting_in g.P.Registered.parts c.args.environment.now) s (call_name call) (gives t) =
    subst (λ (z : Text). HasName (setting_in g.P.Registered.parts c.args.environment.now) s (call_name call) (gives z)) (sym c.in-Ok.ensures) named in
    lone-helped _ _ occurrence call t (Some (target_in false t c.in-Some.target)) alone has
    (rw c.as_str.ensures.value at (c.in-Some.ensures false []))
    (c.render_target.ensures.renders occurrence location alone captured captures has)

pub alone::render_value-returns-in-Some-as_json-clause-renders : goal.alone::render_value-returns-in-Some-as_json-clause-renders
alone::render_value-returns-in-Some-as_json-clause-renders g u c = λ occurrence location alone captured captures named valued pathless.
    let s = state_with captured c.args.run.now in
    let call = call_view c.args.helper.now in
    let t = string_bytes c.in-Ok.name in
    let found = value_found c.args.value in
    lone-helped _ _ occurrence call t None alone
    (subst (λ (z : Text). HasName (setting_in g.P.Registered.parts c.args.environment.now) s (call_name call) (gives z)) (sym c.in-Ok.ensures) named)
    (rw c.as_str.ensures.value at (c.in-None.ensures false []))
    (value-there _ _ occurrence call (name_alone t) found (view c.in-Some-as_json.json.now) valued c.in-Some-as_json.ensures
    (c.write_value.ensures.shows occurrence location.location found (ap rendered_if_any (sym c.in-Some-as_json.ensures)) (λ on. pathless) _ s
    (sym location.indent) refl refl))

pub alone::render_value-returns-clause-renders : goal.alone::render_value-returns-clause-renders
alone::render_value-returns-clause-renders g u c = λ occurrence location alone captured captures named valued pathless.
    let p = setting_in g.P.Registered.parts c.args.environment.now in
    let s = state_with captured c.args.run.now in
    let call = call_view c.args.helper.now in
    let t = string_bytes c.in-Ok.name in
    lone-helped _ _ occurrence call t None alone
    (subst (λ (z : Text). HasName p s (call_name call) (gives z)) (sym c.in-Ok.ensures) named)
    (rw c.as_str.ensures.value at (c.in-None.ensures false []))
    (value-missing _ _ occurrence call (name_alone t)
    (value-lacks p s (call_name call) (value_found c.args.value) valued c.in-None-as_json.ensures)
    (c.render_missing.ensures.renders occurrence location alone captured captures))

pub section::render_section-returns-in-Path-clause-renders : goal.section::render_section-returns-in-Path-clause-renders
section::render_section-returns-in-Path-clause-renders g u c = λ occurrence location captured captures section.
    c.render_section_at.ensures.renders occurrence location captured captures section
    (section-by-path (call_name (call_view c.args.helper.now)) (name_view (call_view c.args.helper.now)) _
    (call_name-view c.args.helper.now ∙ ap param_view c.in-Path.is ∙ param_view-Path _))

pub section::render_section-returns-in-Name-clause-renders : goal.section::render_section-returns-in-Name-clause-renders
section::render_section-returns-in-Name-clause-renders g u c = λ occurrence location captured captures section.
    c.render_section_named.ensures.renders occurrence location captured captures section
    (call_name-view c.args.helper.now ∙ ap param_view c.in-Name.is ∙ param_view-Name _ ∙ ap (λ t. name t) (sym c.as_str.ensures.value))

pub section::render_section-returns-in-Literal-clause-renders : goal.section::render_section-returns-in-Literal-clause-renders
section::render_section-returns-in-Literal-clause-renders g u c = λ occurrence location captured captures section.
    absurd (literal-unwritten (call_name (call_view c.args.helper.now)) _ section.name
    (call_name-view c.args.helper.now ∙ ap param_view c.in-Literal.is ∙ param_view-Literal _) section.written)

pub section::render_section-returns-in-Subexpression-clause-renders : goal.section::render_section-returns-in-Subexpression-clause-renders
section::render_section-returns-in-Subexpression-clause-renders g u c = λ occurrence location captured captures section.
    absurd (inner-unwritten (call_name (call_view c.args.helper.now)) _ section.name
    (call_name-view c.args.helper.now ∙ ap param_view c.in-Subexpression.is ∙ param_view-Subexpression _) section.written)

pub section::render_section_at-returns-in-Ok-clause-renders : goal.section::render_section_at-returns-in-Ok-clause-renders
section::render_section_at-returns-in-Ok-clause-renders g u c = λ occurrence location captured captures section leads.
    let call = call_view c.args.helper.now in
    let left = c.in-Ok.ensures.leads occurrence location captured section leads in
    refines_prog-leads _ _ (render_call occurrence true call)
    (λ y. then_out (line_of c.args.run.now.line) (left_of occurrence (view_with_bodies true call left.0) y)) c.in-Ok.next left.1
    (refines_prog-then_out _ _ (line_of c.args.run.now.line) (left_of occurrence (view_with_bodies true call left.0) c.in-Ok.next)
    (ap (λ (l : LineState). record (state_with captured c.render_next-outcome.new.run) { line = l }) c.line_out-run.ensures)
    (c.render_next-outcome.ensures.renders occurrence location true left.0 captured captures))

pub section::render_section_at-returns-in-Err-clause-renders : goal.section::render_section_at-returns-in-Err-clause-renders
section::render_section_at-returns-in-Err-clause-renders g u c = λ occurrence location captured captures section leads.
    rw c.from.ensures (c.in-Err.ensures.leads occurrence location captured section leads).1

pub section::render_section_named-returns-in-Ok-Some-clause-renders : goal.section::render_section_named-returns-in-Ok-Some-clause-renders
section::render_section_named-returns-in-Ok-Some-clause-renders g u c = λ occurrence location captured captures section named.
    let call = call_view c.args.helper.now in
    c.render_section_at.ensures.renders occurrence location captured captures section
    (section-by-name (call_name call) (name_view call) c.args.text.now (reference_of c.in-Ok-Some.path) named
    (rw c.in-Ok-Some.field-0-is at c.in-Ok-Some.ensures.found))

pub section::render_section_named-returns-in-Ok-None-clause-renders : goal.section::render_section_named-returns-in-Ok-None-clause-renders
section::render_section_named-returns-in-Ok-None-clause-renders g u c = λ occurrence location captured captures section named.
    let call = call_view c.args.helper.now in
    rw c.from.ensures (section-failed _ _ occurrence call (state_with captured c.args.run.now) section (λ (u : Unit {0}). render_call occurrence true call)
    (error_of c.helper_not_found.result)
    (λ other. first_fails (section-by-no-path (call_name call) c.args.text.now (error_of c.helper_not_found.result) named
    ((rw c.in-Ok-None.field-0-is at c.in-Ok-None.ensures.none).0 refl) c.helper_not_found.ensures other)))

pub section::render_section_named-returns-in-Err-clause-renders : goal.section::render_section_named-returns-in-Err-clause-renders
section::render_section_named-returns-in-Err-clause-renders g u c = λ occurrence location captured captures section named. refines_prog-no_memory _ _ (error_of OutOfMemory) refl

pub iteration::render_in-returns-in_default-clause-renders : goal.iteration::render_in-returns-in_default-clause-renders
iteration::render_in-returns-in_default-clause-renders g t c =
    λ at known captured captures. refines_prog-no_memory _ _ _ refl

pub iteration::render_in-returns-clause-renders : goal.iteration::render_in-returns-clause-renders
iteration::render_in-returns-clause-renders g t c =
    λ at known captured captures.
    and-pop _ _ _ (pops captured (chain_of c.args.layer.now) c.render_part.new.run c.requires.outer)
    (refines-nearer g.P.Registered.parts c.args.environment.now c.in-Some.innermost c.args.layer
    c.in-Some.ensures.given c.in-Some.ensures.nearest _ _ c.args.run.now c.render_part.new.run (c.render_part.ensures.renders at known) captured captures)

pub iteration::render_at_node-returns-clause-renders : goal.iteration::render_at_node-returns-clause-renders
iteration::render_at_node-returns-clause-renders g t c =
    λ occurrence known block v captured captures.
    let h = view_with_bodies block (call_view c.args.helper.now) v in
    let outer = chain_of c.args.environment.now.innermost.nearest.now in
    let r = c.args.route.now in
    in-with _ _ occurrence h (at_path (route_names r))
    (pushes captured (chain_of c.at_node-layer.result) (with_frame (at_path (route_names r)) h.binding (nearest_variables (frames_in_run outer c.args.run.now)))
    c.args.run.now (record c.args.run.now { partials = c.enter.new.self }) (λ fs. refl)
    (with-node (partials_of c.enter.new.self) (partials_of c.args.run.now.partials) outer (chain_of c.at_node-layer.result) (view c.args.node.now)
    (chain_of r.start.nearest.now) r.start.skipped (descent_names r.descent) h.binding (names_seen c.block_names-names.result) c.enter.ensures.entered
    (c.block_names-names.ensures ∙ ap bound_names (binding-seen c.args.helper.now c.as_ref.result c.as_ref.ensures.value)) c.at_node-layer.ensures.chain))
    (rw (body-seen c.args.helper.now c.as_ref-2.result c.as_ref-2.ensures.value)
    at (c.render_in.ensures.renders (body_at occurrence (as_part 0)) known captured captures))

pub iteration::render_at_value-returns-clause-renders : goal.iteration::render_at_value-returns-clause-renders
iteration::render_at_value-returns-clause-renders g t c =
    λ occurrence known block v captured captures.
    let h = view_with_bodies block (call_view c.args.helper.now) v in
    let outer = chain_of c.args.environment.now.innermost.nearest.now in
    in-with _ _ occurrence h (at_value (view c.args.value.now))
    (pushes captured (chain_of c.at_value-layer.result) (with_frame (at_value (view c.args.value.now)) h.binding (nearest_variables (frames_in_run outer c.args.run.now)))
    c.args.run.now (record c.args.run.now { partials = c.enter.new.self }) (λ fs. refl)
    (with-value (partials_of c.enter.new.self) (partials_of c.args.run.now.partials) outer (chain_of c.at_value-layer.result) (view c.args.value.now)
    h.binding (names_seen c.block_names-names.result) c.enter.ensures.entered
    (c.block_names-names.ensures ∙ ap bound_names (binding-seen c.args.helper.now c.as_ref.result c.as_ref.ensures.value)) c.at_value-layer.ensures.chain))
    (rw (body-seen c.args.helper.now c.as_ref-2.result c.as_ref-2.ensures.value)
    at (c.render_in.ensures.renders (body_at occurrence (as_part 0)) known captured captures))

pub iteration::render_in_frame-returns-in-Err-clause-renders : goal.iteration::render_in_frame-returns-in-Err-clause-renders
iteration::render_in_frame-returns-in-Err-clause-renders g t c =
    λ occurrence known i block v captured captures. refines_prog-no_memory _ _ _ refl

pub iteration::render_in_frame-returns-clause-renders : goal.iteration::render_in_frame-returns-clause-renders
iteration::render_in_frame-returns-clause-renders g t c =
    λ occurrence known i block v captured captures.
    let outer = chain_of c.args.environment.now.innermost.nearest.now in
    in-frame _ _ (frame_of c.args.frame) _
    (pushes captured (chain_of c.of_frame-layer.result) (frame_of c.args.frame) c.args.run.now (record c.args.run.now { partials = c.enter_frame.new.self }) (λ fs. refl)
    (frame-entered (partials_of c.enter_frame.new.self) (partials_of c.args.run.now.partials) outer (chain_of c.of_frame-layer.result)
    (frame_of c.args.frame) (frame_of c.take_local_partials-partials.new.self) _ c.in-Ok.ensures.frame c.take_local_partials-partials.ensures.left
    c.take_local_partials-partials.ensures.taken c.of_frame-layer.ensures.chain))
    (rw (body-seen c.args.helper.now c.as_ref.result c.as_ref.ensures.value)
    at (c.render_in.ensures.renders (body_at occurrence (as_part i)) known captured captures))

pub iteration::render_iteration-returns-in_default-clause-renders : goal.iteration::render_iteration-returns-in_default-clause-renders
iteration::render_iteration-returns-in_default-clause-renders g t c =
    λ at known captured captures. refines_prog-no_memory _ _ _ refl

pub iteration::render_iteration-returns-clause-renders : goal.iteration::render_iteration-returns-clause-renders
iteration::render_iteration-returns-clause-renders g t c =
    λ at known captured captures.
    let is : chain_of c.iteration_layer-layer.result ≡ iteration_in c.args.environment.now c.args.route c.args.names.now c.args.iteration =
    c.iteration_layer-layer.ensures.chain in
    rw is at
    (refines-nearer g.P.Registered.parts c.args.environment.now c.in-Some.innermost _
    c.in-Some.ensures.given c.in-Some.ensures.nearest _ _ c.args.run.now c.render_part.new.run
    (c.render_part.ensures.renders at (around-within c.args.iteration.index _ known)) captured captures)

pub iteration::run_iterations-iterations-init : goal.iteration::run_iterations-iterations-init
iteration::run_iterations-iterations-init g t c =
    record {
      number = 0;
      here = _;
      frame = entered-frame (partials_of c.enter.new.self) (partials_of c.args.run.now.partials) _ c.args.route _ _ c.enter.ensures.entered;
      left = λ occurrence known block v captured captures next r last d. d;
      members = rw (sym c.iterations_of-left.ensures.iterations) at c.iterations_of-left.ensures.members;
      keyed = rw (sym c.iterations_of-left.ensures.iterations) at c.iterations_of-left.ensures.keyed;
      same = same-refl _;
      unchanged = record { recursive = refl; escapes = refl };
    }

pub iteration::run_iterations-iterations-preserved : goal.iteration::run_iterations-iterations-preserved
iteration::run_iterations-iterations-preserved g t c =
    let n = c.iterations.invariant.number in
    let it = iteration_view c.in-Some.iteration in
    let has = keyed-first _ _ c.in-Some.ensures c.iterations.invariant.keyed in
    let bound = c.block_names-names.ensures ∙ ap bound_names (binding-seen c.args.helper.now c.as_ref.result c.as_ref.ensures.value) in
    let layer = iteration_in c.args.environment.now c.args.route c.block_names-names.result c.in-Some.iteration in
    record {
      number = n + 1;
      here = _;
      frame = next-frame-in (partials_of c.render_iteration.new.run.partials) _ layer c.args.route _ (names_seen c.block_names-names.result) _ it bound refl has;
      left = λ occurrence known block v captured captures.
          let h = view_with_bodies block (call_view c.args.helper.now) v in
          iterations-go _ _ occurrence n h (path_of c.args.route) _ c.in-Some.ensures (c.iterations.invariant.left occurrence known block v captured captures)
          (refines_prog-iteration _ _ occurrence n h (path_of c.args.route) it
          (ap (λ fs. state_in captured fs c.iterations.run)
          (set-frame (partials_of c.iterations.run.partials) _ layer c.args.route _ (names_seen c.block_names-names.result) _ _ it c.iterations.invariant.frame bound refl has))
          (rw (body-seen c.args.helper.now c.as_ref-body.result c.as_ref-body.ensures.value) at
          (c.in-Done.ensures.renders (body_at occurrence (as_iteration n it.index)) (around-iteration occurrence n it.index known) captured captures)));
      members = members-rest _ _ c.in-Some.ensures c.iterations.invariant.members;
      keyed = keyed-rest _ _ c.in-Some.ensures c.iterations.invariant.keyed;
      same = same-trans _ _ _ c.iterations.invariant.same c.render_iteration.ensures.stays.same;
      unchanged = record {
        recursive = c.render_iteration.ensures.stays.unchanged.recursive ∙ c.iterations.invariant.unchanged.recursive;
        escapes = c.render_iteration.ensures.stays.unchanged.escapes ∙ c.iterations.invariant.unchanged.escapes;
      };
    }

pub iteration::run_iterations-returns-in-OutOfMemory-clause-renders : goal.iteration::run_iterations-returns-in-OutOfMemory-clause-renders
iteration::run_iterations-returns-in-OutOfMemory-clause-renders g t c =
    λ occurrence known block v captured captures.
    let n = c.iterations.invariant.number in
    let it = iteration_view c.in-Some.iteration in
    let has = keyed-first _ _ c.in-Some.ensures c.iterations.invariant.keyed in
    let bound = c.block_names-names.ensures ∙ ap bound_names (binding-seen c.args.helper.now c.as_ref.result c.as_ref.ensures.value) in
    let layer = iteration_in c.args.environment.now c.args.route c.block_names-names.result c.in-Some.iteration in
    let h = view_with_bodies block (call_view c.args.helper.now) v in
    each-over _ _ _ (ap (push_frame empty_frame) (unchanged-around captured c.args.run.now (record c.args.run.now { partials = c.enter.new.self }) c.enter.ensures.entered (λ fs. refl)))
    (rw c.iterations_of-left.ensures.iterations at
    (iterations-over _ _ occurrence n h (path_of c.args.route) _ c.in-Some.ensures (c.iterations.invariant.left occurrence known block v captured captures)
    (refines_prog-iteration _ _ occurrence n h (path_of c.args.route) it
    (ap (λ fs. state_in captured fs c.iterations.run)
    (set-frame (partials_of c.iterations.run.partials) _ layer c.args.route _ (names_seen c.block_names-names.result) _ _ it c.iterations.invariant.frame bound refl has))
    (rw (body-seen c.args.helper.now c.as_ref-body.result c.as_ref-body.ensures.value) at
    (c.in-OutOfMemory.ensures.renders (body_at occurrence (as_iteration n it.index)) (around-iteration occurrence n it.index known) captured captures)))))

pub iteration::run_iterations-returns-in-Error-clause-renders : goal.iteration::run_iterations-returns-in-Error-clause-renders
iteration::run_iterations-returns-in-Error-clause-renders g t c =
    λ occurrence known block v captured captures.
    let n = c.iterations.invariant.number in
    let it = iteration_view c.in-Some.iteration in
    let has = keyed-first _ _ c.in-Some.ensures c.iterations.invariant.keyed in
    let bound = c.block_names-names.ensures ∙ ap bound_names (binding-seen c.args.helper.now c.as_ref.result c.as_ref.ensures.value) in
    let layer = iteration_in c.args.environment.now c.args.route c.block_names-names.result c.in-Some.iteration in
    let h = view_with_bodies block (call_view c.args.helper.now) v in
    each-over _ _ _ (ap (push_frame empty_frame) (unchanged-around captured c.args.run.now (record c.args.run.now { partials = c.enter.new.self }) c.enter.ensures.entered (λ fs. refl)))
    (rw c.iterations_of-left.ensures.iterations at
    (iterations-over _ _ occurrence n h (path_of c.args.route) _ c.in-Some.ensures (c.iterations.invariant.left occurrence known block v captured captures)
    (refines_prog-iteration _ _ occurrence n h (path_of c.args.route) it
    (ap (λ fs. state_in captured fs c.iterations.run)
    (set-frame (partials_of c.iterations.run.partials) _ layer c.args.route _ (names_seen c.block_names-names.result) _ _ it c.iterations.invariant.frame bound refl has))
    (rw (body-seen c.args.helper.now c.as_ref-body.result c.as_ref-body.ensures.value) at
    (c.in-Error.ensures.renders (body_at occurrence (as_iteration n it.index)) (around-iteration occurrence n it.index known) captured captures)))))

pub iteration::run_iterations-returns-clause-renders : goal.iteration::run_iterations-returns-clause-renders
iteration::run_iterations-returns-clause-renders g t c =
    λ occurrence known block v captured captures.
    refines_prog-in_block _ _ empty_frame _
    (ap (push_frame empty_frame) (unchanged-around captured c.args.run.now (record c.args.run.now { partials = c.enter.new.self }) c.enter.ensures.entered (λ fs. refl)))
    (ap (λ fs. state_in captured fs c.iterations.run) (sym c.iterations.invariant.frame.around))
    (rw c.iterations_of-left.ensures.iterations at
    (iterations-end _ _ occurrence c.iterations.invariant.number (view_with_bodies block (call_view c.args.helper.now) v) (path_of c.args.route) _
    c.in_default.ensures (c.iterations.invariant.left occurrence known block v captured captures)))

pub iteration::run_iterations-render_iteration-requires : goal.iteration::run_iterations-render_iteration-requires
iteration::run_iterations-render_iteration-requires g t c κs inside = (
  search rules,
  (
    inside.0,
    (
      inside.1.0,
      (
        inside.1.1,
        lead-iteration _ c.args.value c.args.route (names_seen c.block_names-names.result) (iteration_view c.in-Some.iteration) _ _ c.requires.route
            (members-first _ _ c.in-Some.ensures c.iterations.invariant.members) c.args.environment.now.innermost.lead refl,
      ),
    ),
  ),
)

pub include::render_ahead-returns-in-Done-clause-ahead : goal.include::render_ahead-returns-in-Done-clause-ahead
include::render_ahead-returns-in-Done-clause-ahead g t c =
    λ at known captured captures held.
    refines_ahead-captured _ _ _ c.in-Ahead._ahead.now c.into_captured.result (begins-empty _ c.new-ahead.result c.new-ahead.ensures.text c.new-ahead.ensures.emitted)
    (let text = c.into_captured.ensures.text in search rules) (let emitted = c.into_captured.ensures.emitted in search rules)
    (rw c.in-Ahead.is at (c.in-Done.ensures.renders at known captured captures))

pub include::render_ahead-returns-in-OutOfMemory-clause-ahead : goal.include::render_ahead-returns-in-OutOfMemory-clause-ahead
include::render_ahead-returns-in-OutOfMemory-clause-ahead g t c =
    λ at known captured captures held.
    refines_ahead-over _ _ _ c.in-Ahead._ahead.now (begins-empty _ c.new-ahead.result c.new-ahead.ensures.text c.new-ahead.ensures.emitted)
    (rw c.in-Ahead.is at (c.in-OutOfMemory.ensures.renders at known captured captures))

pub include::render_ahead-returns-in-Error-clause-ahead : goal.include::render_ahead-returns-in-Error-clause-ahead
include::render_ahead-returns-in-Error-clause-ahead g t c =
    λ at known captured captures held.
    refines_ahead-over _ _ _ c.in-Ahead._ahead.now (begins-empty _ c.new-ahead.result c.new-ahead.ensures.text c.new-ahead.ensures.emitted)
    (rw c.in-Ahead.is at (c.in-Error.ensures.renders at known captured captures))

-- ---- scope frames

pub iteration::render_each-returns-in-Node-clause-renders : goal.iteration::render_each-returns-in-Node-clause-renders
iteration::render_each-returns-in-Node-clause-renders g t c = λ occurrence known block v captured captures.
    rw (c.in-Node.is, sym c.route-route.ensures.names) (c.run_iterations.ensures.renders occurrence known block v captured captures)

pub iteration::render_each-returns-in-Missing-clause-renders : goal.iteration::render_each-returns-in-Missing-clause-renders
iteration::render_each-returns-in-Missing-clause-renders g t c = λ occurrence known block v captured captures.
    rw c.in-Missing.is (refines_prog-in_block _ _ empty_frame _ refl refl (refines_prog-done _ _))

pub include::render_partial-returns-in-Err-clause-renders : goal.include::render_partial-returns-in-Err-clause-renders
include::render_partial-returns-in-Err-clause-renders g t c = λ occurrence known captured captures.
    let tag = decorator_view c.args.tag.now in
    rw c.from.ensures (refines_prog-no_value _ _ (ask (view_of (decorator_name tag) (decorator_args tag)))
    (λ v. on_line (line_at (decorator_marks tag)) (include_tag occurrence tag v)) (error_of c.in-Err.e)
    (λ other. fails-ask _ (view_of (decorator_name tag) (decorator_args tag)) (c.in-Err.ensures captured other)))

pub include::render_partial-returns-clause-renders : goal.include::render_partial-returns-clause-renders
include::render_partial-returns-clause-renders g t c = λ occurrence known captured captures.
    let tag = decorator_view c.args.tag.now in
    let p = setting_in g.P.Registered.parts c.args.environment.now in
    tag-includes p g.T.OutputMode.mode.may_give occurrence tag (called_view c.in-Ok.call) _ (c.in-Ok.ensures captured)
    (tag-shown c.args.tag.now (called_view c.in-Ok.call) _ _ _ _ c.as_ref-2.ensures.value c.as_ref.ensures.value
    (c.text_of.ensures ∙ c.in-Ok-joined_indent.ensures))
    (ap (λ l. record (state_with captured c.args.run.now) { line = l }) c.line_at-run.ensures)
    (ap (λ l. record (state_with captured c.include-outcome.new.run) { line = l }) c.line_out-run.ensures)
    (c.include-outcome.ensures.renders occurrence known captured captures)

pub include::include-returns-then-is_current-clause-renders : goal.include::include-returns-then-is_current-clause-renders
include::include-returns-then-is_current-clause-renders g t c = λ occurrence known captured captures.
    rw c.from.ensures (includes-self _ _ (including_view c.args.tag) occurrence (error_of c.failed.result)
    (rw c.as_str-name.ensures.value at (sym c.is_current.ensures ∙ c.if-is_current.true)) c.failed.ensures)

pub include::include-returns-then-is_partial_block-clause-renders : goal.include::include-returns-then-is_partial_block-clause-renders
include::include-returns-then-is_partial_block-clause-renders g t c = λ occurrence known captured captures.
    includes-captured _ _ (including_view c.args.tag) occurrence
    (rw c.as_str-name.ensures.value at (sym c.is_current.ensures ∙ c.if-is_current.false))
    (rw c.as_str-name.ensures.value at (sym c.is_partial_block.ensures ∙ c.if-is_partial_block.true))
    (c.render_captured.ensures.renders occurrence known captured captures)

pub include::include-returns-in-Ok-Some-clause-renders : goal.include::include-returns-in-Ok-Some-clause-renders
include::include-returns-in-Ok-Some-clause-renders g t c = λ occurrence known captured captures.
    includes-local _ _ (including_view c.args.tag) occurrence (tree_view c.in-Ok-Some.tree.value)
    (rw c.as_str-name.ensures.value at (sym c.is_current.ensures ∙ c.if-is_current.false))
    (rw c.as_str-name.ensures.value at (sym c.is_partial_block.ensures ∙ c.if-is_partial_block.false))
    (rw c.as_str-name.ensures.value at (rw c.in-Ok-Some.field-0-is at c.in-Ok-Some.ensures))
    (c.include_local.ensures.renders occurrence known captured captures)

pub include::include-returns-in-Ok-None-clause-renders : goal.include::include-returns-in-Ok-None-clause-renders
include::include-returns-in-Ok-None-clause-renders g t c = λ occurrence known captured captures.
    includes-other _ _ (including_view c.args.tag) occurrence
    (rw c.as_str-name.ensures.value at (sym c.is_current.ensures ∙ c.if-is_current.false))
    (rw c.as_str-name.ensures.value at (sym c.is_partial_block.ensures ∙ c.if-is_partial_block.false))
    (rw c.as_str-name.ensures.value at (rw c.in-Ok-None.field-0-is at c.in-Ok-None.ensures))
    (c.include_other.ensures.renders occurrence known captured captures)

pub include::include_local-returns-clause-renders : goal.include::include_local-returns-clause-renders
include::include_local-returns-clause-renders g t c = λ occurrence known captured captures.
    let u = tree_view c.args.tree.value in
    rw (c.deref-2.ensures) at (c.include_tree.ensures.renders occurrence known (included_at occurrence (tree_name u) u)
    (around-included occurrence (tree_name u) u _ (rw c.deref.ensures at c.included-template.ensures) known) captured captures)

pub include::include_other-returns-in-Some-clause-renders : goal.include::include_other-returns-in-Some-clause-renders
include::include_other-returns-in-Some-clause-renders g t c = λ occurrence known captured captures.
    let u = tree_view c.in-Some.tree.now in
    let name = (including_view c.args.tag).call.name in
    other-registered _ _ (including_view c.args.tag) occurrence u (rw c.as_str-name.ensures.value at c.in-Some.ensures)
    (c.include_tree.ensures.renders occurrence known (included_at occurrence (Some name) u)
    (around-included occurrence (Some name) u _ (ap (λ (n : Text). the_included (Some n)) c.as_str-name.ensures.value) known) captured captures)

pub include::include_other-returns-in-Some-body-clause-renders : goal.include::include_other-returns-in-Some-body-clause-renders
include::include_other-returns-in-Some-body-clause-renders g t c = λ occurrence known captured captures.
    other-own _ _ (including_view c.args.tag) occurrence (tree_view c.in-Some-body.body.now) (rw c.as_str-name.ensures.value at c.in-None.ensures)
    (ap part_view (sym c.in-Some-body.is))
    (c.include_tree-in-Some-body.ensures.renders occurrence known (body_at occurrence (as_part 0)) known captured captures)

pub include::include_other-returns-in-None-body-clause-renders : goal.include::include_other-returns-in-None-body-clause-renders
include::include_other-returns-in-None-body-clause-renders g t c = λ occurrence known captured captures.
    rw c.from.ensures (other-none _ _ (including_view c.args.tag) occurrence (error_of c.partial_not_found.result)
    (rw c.as_str-name.ensures.value at c.in-None.ensures) (ap part_view (sym c.in-None-body.is))
    (rw c.as_str-name.ensures.value at c.partial_not_found.ensures))

pub include::render_captured-returns-in-Some-clause-renders : goal.include::render_captured-returns-in-Some-clause-renders
include::render_captured-returns-in-Some-clause-renders g t c = λ occurrence known captured captures.
    captured-written _ _ (including_view c.args.tag) occurrence _ (including_view c.args.tag).body (newest captured.pieces) c.in-Some.captured.now
    (rw c.in-Some.is at captures) c.put_captured.ensures.writes

pub include::render_captured-returns-in_default-body-clause-renders : goal.include::render_captured-returns-in_default-body-clause-renders
include::render_captured-returns-in_default-body-clause-renders g t c = λ occurrence known captured captures.
    let v = including_view c.args.tag in
    rw c.from.ensures (captured-none _ _ v occurrence _ v.body (newest captured.pieces) (error_of c.failed.result)
    (rw c.in_default.is at captures) (ap part_view (sym c.in_default-body.is)) c.failed.ensures)

pub include::render_captured-returns-clause-renders : goal.include::render_captured-returns-clause-renders
include::render_captured-returns-clause-renders g t c = λ occurrence known captured captures.
    let v = including_view c.args.tag in
    let layers = chain_of c.args.environment.now.innermost.nearest.now in
    captured-own _ _ v occurrence _ v.body (tree_view c.in-Some-body.body.now) (newest captured.pieces) {c = None}
    (rw c.in_default.is at captures) (ap part_view (sym c.in-Some-body.is))
    (taken-name captured c.args.run.now c.take_name-name.new.self c.take_name-name.ensures.run c.take_name-name.ensures.partials)
    (left-name captured (state_with captured c.args.run.now) _ c.render_tree-outcome.new.run c.leave.new.self c.leave.ensures.run c.leave.ensures.partials c.take_name-name.ensures.name refl)
    (c.render_tree-outcome.ensures.renders (body_at occurrence (as_part 0)) known captured captures)

pub include::render_under-returns-clause-renders : goal.include::render_under-returns-clause-renders
include::render_under-returns-clause-renders g t c = λ at known captured captures.
    c.render_tree.ensures.renders at known captured captures

pub include::include_tree-returns-in-Err-clause-renders : goal.include::include_tree-returns-in-Err-clause-renders
include::include_tree-returns-in-Err-clause-renders g t c = λ occurrence known there known_there captured captures.
    rw c.from.ensures (inclusion-limit_reached _ _ (including_view c.args.tag) there (tree_view c.args.tree.now) (render_ahead occurrence (part_view c.args.body))
    (error_of c.in-Err.e) c.in-Err.ensures.err.0 c.in-Err.ensures.err.1)

pub include::include_tree-returns-in-Err-base-clause-renders : goal.include::include_tree-returns-in-Err-base-clause-renders
include::include_tree-returns-in-Err-base-clause-renders g t c = λ occurrence known there known_there captured captures.
    rw c.from-in-Err-base.ensures (inclusion-no_value _ _ (including_view c.args.tag) there (tree_view c.args.tree.now) (render_ahead occurrence (part_view c.args.body))
    (error_of c.in-Err-base.e) c.in-Ok.ensures.ok.0 (c.in-Err-base.ensures captured))

pub include::include_tree-returns-in_default-clause-renders : goal.include::include_tree-returns-in_default-clause-renders
include::include_tree-returns-in_default-clause-renders g t c = λ occurrence known there known_there captured captures.
    refines_prog-no_memory _ _ (error_of OutOfMemory) refl

pub include::include_tree-returns-clause-renders : goal.include::include_tree-returns-clause-renders
include::include_tree-returns-clause-renders g t c = λ occurrence known there known_there captured captures.
    let has = c.in-Ok-base.ensures captured in
    c.include_at.ensures.renders occurrence known there known_there captured captures has.0 has.1
    (c.value-value.ensures ∙ has.2) (rw (sym c.as_slice-bound.ensures.value) at c.in-Ok-bound_hash.ensures) c.in-Ok.ensures.ok.0 c.in-Ok.ensures.ok.1

pub include::include_at-returns-in_default-clause-renders : goal.include::include_at-returns-in_default-clause-renders
include::include_at-returns-in_default-clause-renders g t c =
    λ occurrence known there known_there captured captures d valued merged bound below more. refines_prog-no_memory _ _ (error_of OutOfMemory) refl

pub include::include_at-returns-clause-renders : goal.include::include_at-returns-clause-renders
include::include_at-returns-clause-renders g t c =
    λ occurrence known there known_there captured captures d valued merged bound below more.
    let x = c.args.environment.now in
    let w0 = within x in
    let v = including_view c.args.tag in
    let u = tree_view c.args.tree.now in
    let s = state_with captured c.args.run.now in
    let layer = chain_of c.in-Some.innermost.nearest.now in
    let same = ap (λ (l : Bor Layer). chain_of l.now) c.in-Some.ensures.nearest ∙ c.at_value-layer.ensures.chain in
    let outer = ap outer_chain same in
    let taken = c.take_name-name.new.self in
    let begins = begins-inclusion captured layer d (view c.args.value.now) (hash_data v.call.hash) (hash_values c.args.hash.now) c.args.run.now
    (record c.args.run.now { partials = c.enter-2.new.self }) taken c.enter-2.ensures.entered (λ fs. refl) c.take_name-name.ensures.run
    c.take_name-name.ensures.partials same merged bound in
    elim c.match-body.branch [
      | include::include_at-in-Some-body+in-Ok w ↦
          rw (w.outcome-is, w.sink-is, w.in-Some-body.is)
          (inclusion-ahead _ _ v _ occurrence there u (tree_view w.in-Some-body.body.now) d {c = None}
          (λ ps. state_in_inclusion v.indent (Some ps ∷ captured.pieces) c.args.count (run_state (frames_in_run layer w.render_ahead.new.run) w.render_ahead.new.run))
          (λ ps. state_in_inclusion v.indent (Some ps ∷ captured.pieces) c.args.count (run_state (frames_in_run layer w.render_under.new.run) w.render_under.new.run))
          below valued begins
          (ahead-nearer g.P.Registered.parts x c.in-Some.innermost c.in-Some.ensures.given
          (w.in-Ok.ensures.ahead (body_at occurrence (as_part 0)) known (record { pieces = captured.pieces }) captures _))
          (λ ps. captured-more v.indent w0.indent (Some ps) captured.pieces w0.inclusions c.args.count
          (run_state (frames_in_run layer w.render_ahead.new.run) w.render_ahead.new.run) more)
          (λ ps. ends-inclusion captured layer v.indent (Some ps ∷ captured.pieces) c.args.count s _ w.render_under.new.run c.leave.new.self outer
          (rw w.run-is at c.leave.ensures.run) (rw w.run-is at c.leave.ensures.partials) c.take_name-name.ensures.name refl refl refl)
          (λ ps is. prog-nearer g.P.Registered.parts x c.in-Some.innermost c.in-Some.ensures.given
          (w.render_under.ensures.renders there known_there (record { pieces = Some ps ∷ captured.pieces }) is)))
      | include::include_at-in-Some-body+in-Err w ↦
          rw (w.outcome-is, w.from.ensures, w.sink-is, w.in-Some-body.is)
          (inclusion-ahead_over _ _ v _ occurrence there u (tree_view w.in-Some-body.body.now) d {c = None} below valued begins
          (ahead-nearer g.P.Registered.parts x c.in-Some.innermost c.in-Some.ensures.given
          (w.in-Err.ensures.ahead (body_at occurrence (as_part 0)) known (record { pieces = captured.pieces }) captures _)))
      | include::include_at-in-None w ↦
          rw (w.outcome-is, w.sink-is, w.in-None.is)
          (inclusion-plain _ _ v there u d {c = None} below valued
          (starts-inclusion captured v.indent None c.args.count (frames_in_run layer taken) _ c.args.run.now taken begins more)
          (ends-inclusion captured layer v.indent (None ∷ captured.pieces) c.args.count s _ w.render_under-outcome.new.run c.leave.new.self outer
          (rw w.run-is at c.leave.ensures.run) (rw w.run-is at c.leave.ensures.partials) c.take_name-name.ensures.name refl refl refl)
          (prog-nearer g.P.Registered.parts x c.in-Some.innermost c.in-Some.ensures.given
          (w.render_under-outcome.ensures.renders there known_there (record { pieces = None ∷ captured.pieces }) (captured-no _))))
    ]

pub include::include_at-returns-clause-stays : goal.include::include_at-returns-clause-stays
include::include_at-returns-clause-stays g t c =
    let entered = record c.args.run.now { partials = c.enter-2.new.self } in
    let named = unchanged-named entered c.take_name-name.new.self None c.take_name-name.ensures.run in
    let taken : IsUnchanged c.args.run.now c.take_name-name.new.self = record { recursive = named.recursive; escapes = named.escapes } in
    elim c.match-body.branch [
      | include::include_at-in-Some-body+in-Ok w ↦ record {
        unchanged = unchanged-then _ _ _ taken (unchanged-then _ _ _ w.in-Ok.ensures.unchanged (unchanged-then _ _ _ w.render_under.ensures.stays.unchanged
            (unchanged-named w.render_under.new.run c.leave.new.self _ (rw w.run-is at c.leave.ensures.run))));
        same = rw w.sink-is w.render_under.ensures.stays.same;
      }
      | include::include_at-in-Some-body+in-Err w ↦ record {
        unchanged = unchanged-then _ _ _ taken (unchanged-then _ _ _ w.in-Err.ensures.unchanged
            (unchanged-named w.render_ahead.new.run c.leave.new.self _ (rw w.run-is at c.leave.ensures.run)));
        same = rw w.sink-is (same-refl _);
      }
      | include::include_at-in-None w ↦ record {
        unchanged = unchanged-then _ _ _ taken (unchanged-then _ _ _ w.render_under-outcome.ensures.stays.unchanged
            (unchanged-named w.render_under-outcome.new.run c.leave.new.self _ (rw w.run-is at c.leave.ensures.run)));
        same = rw w.sink-is w.render_under-outcome.ensures.stays.same;
      }
    ]

pub include::include-returns-in-Err-clause-renders : goal.include::include-returns-in-Err-clause-renders
include::include-returns-in-Err-clause-renders g t c = λ occurrence known captured captures. refines_prog-no_memory _ _ (error_of OutOfMemory) refl

pub include::render_partial-returns-in_default-clause-renders : goal.include::render_partial-returns-in_default-clause-renders
include::render_partial-returns-in_default-clause-renders g t c = λ occurrence known captured captures. refines_prog-no_memory _ _ (error_of OutOfMemory) refl

pub include::render_captured-returns-clause-stays : goal.include::render_captured-returns-clause-stays
include::render_captured-returns-clause-stays g t c = record {
  unchanged = unchanged-then _ _ _ (unchanged-named c.args.run.now c.take_name-name.new.self None c.take_name-name.ensures.run)
      (unchanged-then _ _ _ c.render_tree-outcome.ensures.stays.unchanged
      (unchanged-named c.render_tree-outcome.new.run c.leave.new.self _ c.leave.ensures.run));
  same = c.render_tree-outcome.ensures.stays.same;
}
