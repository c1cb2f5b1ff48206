-- What is done for a call, by what its helper chose.
use Rattle.std.specs.Prelude.{ℕ, ◌+◌, Bool, true, false, List, [], ◌∷◌, Option}
use Rattle.handlebars_base.specs.Bytes.{Text}
use Rattle.handlebars_base.specs.Scoped.{value}
use Rattle.handlebars_template.specs.Tree.{Call, call_binding, call_body, call_inverse, Body, no_body, body}
use Rattle.handlebars_scope.specs.Scopes.{Frame, empty_frame, Base}
use Rattle.handlebars_helpers.specs.CallView.{CallView, HelperView}
use Rattle.handlebars_helpers.specs.Choice.{Choice, the_body, the_inverse, body_in_block, body_in_iterations, the_value, the_boolean, the_line, the_steps, nothing}
use Rattle.handlebars_helpers.specs.UserHelper.{Step, writes, renders_body, renders_inverse, renders_body_in}
use Rattle.handlebars_helpers.specs.Iterations.{Iteration, iteration_frame, with_frame}
use Rattle.handlebars_semantics.specs.Occurrences.{as_iteration, as_part, TreeOccurrence, body_at, inverse_at, Occurrence}
use Rattle.handlebars_semantics.specs.State.{State, push_frame, pop_frame, with_nearest, nearest_variables}
use Rattle.handlebars_semantics.specs.Steps.{Prog, Whole, return, ◌>>=◌, ◌>>◌, state, become, perform}
use Rattle.handlebars_semantics.specs.Writing.{write_value, write_step, write_boolean_text}

-- ---- scope frames

abbrev pub change : (State → State) → Prog (Unit {0})
change f = do
  s ← state
  become (f s)

-- in a scope frame of its own, which is left at the end
abbrev pub in_scope_frame : Frame → Prog (Unit {0}) → Prog (Unit {0})
in_scope_frame f steps = do
  change (push_frame f)
  steps
  change pop_frame

-- ---- what helpers choose

-- the view of a call with its bodies, as its helper sees it: of a block, or of an expression
abbrev pub view_with_bodies : Bool → Call → CallView → HelperView
view_with_bodies block c v = record {
  call = v;
  binding = call_binding c;
  body = call_body c;
  inverse = call_inverse c;
  block = block;
}

-- a body or an inverse is rendered, if there is one
abbrev pub render_branch : TreeOccurrence → Body → Prog (Unit {0})
render_branch at no_body = return tt
render_branch at (body t) = perform (Whole at t)

-- the body, as the part of this number that is rendered for the block
abbrev pub render_body : Occurrence → ℕ → HelperView → Prog (Unit {0})
render_body occurrence i h = render_branch (body_at occurrence (as_part i)) h.body

-- The nearest scope frame is set up for an iteration, and the body is rendered in it.
abbrev pub run_iteration : Occurrence → ℕ → HelperView → Option (List Text) → Iteration → Prog (Unit {0})
run_iteration occurrence i h path t =
    change (with_nearest (iteration_frame path h.binding t)) >> render_branch (body_at occurrence (as_iteration i t.index)) h.body

-- the iterations in order, from a number on
abbrev pub run_iterations : Occurrence → ℕ → HelperView → Option (List Text) → List Iteration → Prog (Unit {0})
run_iterations occurrence i h path [] = return tt
run_iterations occurrence i h path (t ∷ ts) = run_iteration occurrence i h path t >> run_iterations occurrence (i + 1) h path ts

-- in the scope frame of `with`, which has the variables of the nearest one
abbrev pub render_with : Occurrence → HelperView → Base → Prog (Unit {0})
render_with occurrence h base = do
  s ← state
  in_scope_frame (with_frame base h.binding (nearest_variables s.blocks)) (render_body occurrence 0 h)

-- The text of a boolean helper is written; a block renders its body for true, and its inverse for false.
abbrev pub render_boolean : Occurrence → HelperView → Bool → Bool → Prog (Unit {0})
render_boolean occurrence h false b = write_boolean_text occurrence b
render_boolean occurrence h true true = render_body occurrence 0 h
render_boolean occurrence h true false = render_branch (inverse_at occurrence 0) h.inverse

-- One step of a user-defined helper is executed, the one of this number.
abbrev pub take_step : Occurrence → HelperView → ℕ → Step → Prog (Unit {0})
take_step occurrence h i (writes t) = write_step occurrence i t
take_step occurrence h i renders_body = render_body occurrence i h
take_step occurrence h i renders_inverse = render_branch (inverse_at occurrence i) h.inverse
take_step occurrence h i (renders_body_in f) = in_scope_frame f (render_body occurrence i h)

-- the steps in order, from a number on
abbrev pub take_steps : Occurrence → HelperView → ℕ → List Step → Prog (Unit {0})
take_steps occurrence h i [] = return tt
take_steps occurrence h i (step ∷ steps) = take_step occurrence h i step >> take_steps occurrence h (i + 1) steps

-- What a helper chose is executed. A line is passed to the logger by the code, and writes nothing.
abbrev pub execute : Occurrence → HelperView → Choice → Prog (Unit {0})
execute occurrence h the_body = render_body occurrence 0 h
execute occurrence h the_inverse = render_branch (inverse_at occurrence 0) h.inverse
execute occurrence h (body_in_block base) = render_with occurrence h base
execute occurrence h (body_in_iterations path ts) = in_scope_frame empty_frame (run_iterations occurrence 0 h path ts)
execute occurrence h (the_value d) = write_value occurrence (value d)
execute occurrence h (the_boolean b) = render_boolean occurrence h h.block b
execute occurrence h (the_line level text) = return tt
execute occurrence h (the_steps steps) = take_steps occurrence h 0 steps
execute occurrence h nothing = return tt
