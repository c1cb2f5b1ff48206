-- Statements about the state of a run, for any captured pieces.
use Rattle.std.specs.Prelude.{◌≡◌, ◌≢◌, Result, Ok, Err}
use Rattle.handlebars_base.specs.Answers.{Answer, fails}
use Rattle.handlebars_base.specs.Reasons.{out_of_memory}
use Rattle.handlebars_base.specs.RenderRefusals.{reason_in, refusal_of}
use Rattle.handlebars_base.specs.Scoped.{Found}
use Rattle.handlebars_base.specs.declared.error.render_error.RenderError.{RenderError}
use Rattle.handlebars_layers.specs.Destination.{IsDestination}
use Rattle.handlebars_layers.specs.declared.destination.Destination.{Destination}
use Rattle.handlebars_layers.specs.declared.destination.Destination.TheVariants.{Node, Value, Nothing, NoIndex}
use Rattle.handlebars_semantics.specs.State.{Parts, Setting, State}
use Rattle.handlebars_values.specs.View.{CapturedIn, setting_in, state_with, within}
use Rattle.handlebars_values.specs.declared.environment.Environment as declared
use Rattle.handlebars_values.specs.declared.run.Run.{Run}

-- A statement about the setting and the state of a run.
abbrev pub InState : {P : Type 0} → (P → Parts) → declared.Environment P → Run → (Setting → State → Type 0) → Type 0
InState parts x run says = (captured : CapturedIn (within x)) → says (setting_in parts x) (state_with captured run)

-- What is found represents this answer, which may be an error. A call that fails, other than out of memory, fails with the
-- answer's error.
abbrev pub LeadsTo : Answer Found → Result Destination RenderError → Type 0
LeadsTo a (Ok found) = IsDestination a found
LeadsTo a (Err e) = reason_in e ≢ out_of_memory → a ≡ fails (refusal_of e)

-- If a value of the data was found, it is what this answer gives.
abbrev pub IsNodeOf : Answer Found → Destination → Type 0
IsNodeOf a (Node v) = IsDestination a (Node v)
IsNodeOf a (Value v) = Unit {0}
IsNodeOf a Nothing = Unit {0}
IsNodeOf a (NoIndex name) = Unit {0}
