-- What the code's choices of user-defined helpers represent.
use Rattle.std.specs.Prelude.{map}
use Rattle.serde_json.specs.View.{view}
use Rattle.handlebars_helpers.specs.Choice.{Choice, the_steps, the_value, nothing}
use Rattle.handlebars_helpers.specs.UserView.{step_of}
use Rattle.handlebars_expand.specs.declared.user.UserChoice.{UserChoice}
use Rattle.handlebars_expand.specs.declared.user.UserChoice.TheVariants.{Steps, Value, Nothing}

abbrev pub user_choice_of : UserChoice → Choice
user_choice_of (Steps steps) = the_steps (map step_of steps.items)
user_choice_of (Value v) = the_value (view v)
user_choice_of Nothing = nothing
