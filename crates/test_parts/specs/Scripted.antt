-- The answers of scripted parts.
use Rattle.std.specs.Prelude.{List, map, Option, option_map, string_bytes, Some, Vec}
use Rattle.std.specs.declared.alloc.Global.{Global}
use Rattle.serde_json.specs.View.{view}
use Rattle.handlebars_helpers.specs.CallView.{CallView, HelperView}
use Rattle.handlebars_helpers.specs.Decoration.{Action, binds, sets_data, sets_partial, unbinds}
use Rattle.handlebars_helpers.specs.UserHelper.{Step, renders_body, renders_body_in, renders_inverse, writes}
use Rattle.handlebars_scope.specs.Contexts.{data_of}
use Rattle.handlebars_scope.specs.Scopes.{empty_frame}
use Rattle.test_parts.specs.Parts.{first_values, shown_at}
use Rattle.test_parts.specs.declared.scripted.ScriptedAction.{ScriptedAction}
use Rattle.test_parts.specs.declared.scripted.ScriptedAction.TheVariants.{Bind, SetContext, SetPartial, Unbind}
use Rattle.test_parts.specs.declared.scripted.ScriptedStep.{ScriptedStep}
use Rattle.test_parts.specs.declared.scripted.ScriptedStep.TheVariants.{Body, BodyAt, Inverse, Param, Write}

-- what a step of a call does
abbrev pub step_said : HelperView → ScriptedStep → Step
step_said h (Write t) = writes (string_bytes t)
step_said h (Param i) = writes (shown_at i h)
step_said h Body = renders_body
step_said h Inverse = renders_inverse
step_said h (BodyAt v) = renders_body_in (record empty_frame { base_value = Some (view v) })

-- what the steps do, if there are any
abbrev pub steps_said : HelperView → Option (Vec ScriptedStep Global) → Option (List Step)
steps_said h steps = option_map (λ v. map (step_said h) v.items) steps

-- what an action does; a name is bound with the first value of the tag, if it has one
abbrev pub action_said : CallView → ScriptedAction → Action
action_said v (SetContext c) = sets_data (data_of c)
action_said v (Bind local registered) =
    binds (string_bytes local) (record { registered = string_bytes registered; constants = first_values v })
action_said v (Unbind local) = unbinds (string_bytes local)
action_said v (SetPartial name) = sets_partial (string_bytes name)
