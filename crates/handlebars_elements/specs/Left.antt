-- What is left of a call once its helper has chosen.
use Rattle.std.specs.Prelude.{◌≡◌, ◌≢◌, Bool, true, Option, None, Some, Result, Ok, Err, map, option_map}
use denote.Ref.{Bor}
use Rattle.handlebars_base.specs.Bytes.{Text}
use Rattle.handlebars_base.specs.Reasons.{out_of_memory}
use Rattle.handlebars_base.specs.RenderRefusals.{reason_in, refusal_of}
use Rattle.handlebars_base.specs.Scoped.{data_in, path_in}
use Rattle.handlebars_base.specs.declared.error.render_error.RenderError.{RenderError}
use Rattle.handlebars_template.specs.Tree.{Body, Call, as_name, call_name, is_value}
use Rattle.handlebars_template.specs.TreeView.{body_of, tree_view}
use Rattle.handlebars_template.specs.declared.template.tree.Template.{Template}
use Rattle.handlebars_scope.specs.LineState.{LineState}
use Rattle.handlebars_scope.specs.Scopes.{base_of, empty_frame}
use Rattle.handlebars_helpers.specs.CallView.{CallView, HelperView}
use Rattle.handlebars_helpers.specs.Iterations.{iterations_of}
use Rattle.handlebars_helpers.specs.UserView.{step_of}
use Rattle.handlebars_semantics.specs.Execute.{in_scope_frame, render_body, render_branch, render_with, run_iterations, take_steps, view_with_bodies}
use Rattle.handlebars_semantics.specs.Means.{line_out, render_call}
use Rattle.handlebars_semantics.specs.Occurrences.{Occurrence, inverse_at}
use Rattle.handlebars_semantics.specs.State.{Setting, State, helper_for}
use Rattle.handlebars_semantics.specs.Steps.{Prog, become, return, state, ◌>>=◌, ◌>>◌}
use Rattle.handlebars_expand.specs.View.{ValueFails}
use Rattle.handlebars_values.specs.ParamView.{IsOf, value_found}
use Rattle.serde_json.specs.Data.{Data}
use Rattle.handlebars_values.specs.declared.param_value.ParamValue.{ParamValue}
use Rattle.handlebars_elements.specs.declared.next.Next.{Next}
use Rattle.handlebars_elements.specs.declared.next.Next.TheVariants as next

-- a body or an inverse, where there is one
abbrev pub part_view : Option (Bor Template) → Body
part_view part = body_of (option_map (λ t. tree_view t.now) part)

-- ---- what is left

-- the body in the scope frame of `with` at a value, and the body for each member of one
abbrev pub body_with : Occurrence → HelperView → ParamValue → Prog (Unit {0})
body_with occurrence h v = render_with occurrence h (base_of (value_found v))

abbrev pub body_for_each : Occurrence → HelperView → ParamValue → Prog (Unit {0})
body_for_each occurrence h v =
    in_scope_frame empty_frame (run_iterations occurrence 0 h (path_in (value_found v)) (iterations_of (data_in (value_found v))))

-- what is left of a call, once its helper has chosen
abbrev pub left_of : Occurrence → HelperView → Next → Prog (Unit {0})
left_of occurrence h next.Nothing = return tt
left_of occurrence h next.Body = render_body occurrence 0 h
left_of occurrence h next.Inverse = render_branch (inverse_at occurrence 0) h.inverse
left_of occurrence h (next.With v) = body_with occurrence h v
left_of occurrence h (next.Each v) = body_for_each occurrence h v
left_of occurrence h (next.Steps steps) = take_steps occurrence h 0 (map step_of steps.items)
left_of occurrence h next.Section = return tt

-- the steps, and then the line that follows a call, given the line before it
abbrev pub then_out : LineState → Prog (Unit {0}) → Prog (Unit {0})
then_out old steps = steps >> (state >>= (λ new. become (record new { line = line_out old new.line })))

-- What is left in the bracket of a call, given the line before it. Of what may be a section, the whole call is left.
abbrev pub left_in_call : Occurrence → Bool → Call → CallView → LineState → Next → Prog (Unit {0})
left_in_call occurrence block c v old next.Section = render_call occurrence block c
left_in_call occurrence block c v old next.Nothing = then_out old (return tt)
left_in_call occurrence block c v old next.Body = then_out old (render_body occurrence 0 (view_with_bodies block c v))
left_in_call occurrence block c v old next.Inverse =
    then_out old (render_branch (inverse_at occurrence 0) (view_with_bodies block c v).inverse)
left_in_call occurrence block c v old (next.With x) = then_out old (body_with occurrence (view_with_bodies block c v) x)
left_in_call occurrence block c v old (next.Each x) = then_out old (body_for_each occurrence (view_with_bodies block c v) x)
left_in_call occurrence block c v old (next.Steps steps) =
    then_out old (take_steps occurrence (view_with_bodies block c v) 0 (map step_of steps.items))

-- A call by a written name, alone, that no helper and no hook has, where sections are allowed.
pub record IsSection (p : Setting) (s : State) (c : Call) : Type 0 where
  pub name : Text
  pub written : as_name (call_name c) ≡ Some name
  pub alone : is_value c ≡ true
  pub allowed : p.parts.sections ≡ true
  pub none : helper_for p.parts s true name ≡ None

-- A value of `with` or `each` that was reached in data was reached in the given data, which are these. A section is not left.
abbrev pub IsNextOf : Data → Next → Type 0
IsNextOf d next.Nothing = Unit {0}
IsNextOf d next.Body = Unit {0}
IsNextOf d next.Inverse = Unit {0}
IsNextOf d (next.With v) = IsOf d v
IsNextOf d (next.Each v) = IsOf d v
IsNextOf d (next.Steps steps) = Unit {0}
IsNextOf d next.Section = ⊥

-- A value of `with` or `each` that was reached in data was reached in the given data, which are these. A section may be left.
abbrev pub IsNextIfCalled : Data → Next → Type 0
IsNextIfCalled d next.Nothing = Unit {0}
IsNextIfCalled d next.Body = Unit {0}
IsNextIfCalled d next.Inverse = Unit {0}
IsNextIfCalled d (next.With v) = IsOf d v
IsNextIfCalled d (next.Each v) = IsOf d v
IsNextIfCalled d (next.Steps steps) = Unit {0}
IsNextIfCalled d next.Section = Unit {0}

-- what may be a section is one, in this state
abbrev pub IsSectionIfLeft : Setting → State → Bool → Call → Next → Type 0
IsSectionIfLeft p s block c next.Section = (block ≡ true) × IsSection p s c
IsSectionIfLeft p s block c next.Nothing = Unit {0}
IsSectionIfLeft p s block c next.Body = Unit {0}
IsSectionIfLeft p s block c next.Inverse = Unit {0}
IsSectionIfLeft p s block c (next.With v) = Unit {0}
IsSectionIfLeft p s block c (next.Each v) = Unit {0}
IsSectionIfLeft p s block c (next.Steps steps) = Unit {0}

-- ---- calls without a helper

-- A block that isn't called may be a section. On an error (other than out of memory) the call fails with it.
abbrev pub IsLeftWithoutHelper : Setting → State → Bool → Call → Result Next RenderError → Type 0
IsLeftWithoutHelper p s block c (Ok x) = (x ≡ next.Section) × (block ≡ true) × IsSection p s c
IsLeftWithoutHelper p s block c (Err e) = reason_in e ≢ out_of_memory
    → (occurrence : Occurrence) → ValueFails p (render_call occurrence block c) s (refusal_of e)
