-- The outcomes of trees that call decorators and user-defined escape functions: each run is computed.
use Rattle.std.proofs.Common.{◌≡◌, List, refl}
use Rattle.handlebars_base.specs.Answers.{Answer, gives}
use Rattle.handlebars_base.specs.Bytes.{Text}
use Rattle.handlebars_base.specs.Escape.{escaped}
use Rattle.handlebars_helpers.specs.Decoration.{Action}
use Rattle.handlebars_helpers.specs.Escaping.{no_user_escape}
use Rattle.handlebars_helpers.specs.UserHelper.{no_user_helper}
use Rattle.handlebars_helpers.specs.UserDecorator.{no_user_decorator}
use Rattle.handlebars_semantics.specs.Answer.{is_stored, has_begun}
use Rattle.handlebars_semantics.specs.Steps.{◌>>=◌, ◌>>◌}
use Rattle.std.specs.Fmt.{digits}
use Rattle.handlebars_examples.specs.ActionExamples.{ChangedExample, LastDataExample, NullExample, BoundExample, HidesExample, UnboundExample, GoneExample, NoBodyActionExample, UserEscapeExample, FailedEscapeExample}
use Rattle.handlebars_examples.proofs.Answered.{known, no_user_parts, KnowsUserParts}
use Rattle.handlebars_examples.proofs.RunOf.{tree_run, gives_text}

-- decorators with given actions, and a given escape function
abbrev known_actions : {actions : List Action} → KnowsUserParts no_user_helper (λ name q a. a ≡ gives actions) no_user_escape
known_actions =
    record { steps = no_user_parts.steps; offer = no_user_parts.offer; actions = λ called q. known _; escaped = no_user_parts.escaped }

abbrev known_escape : {escape : Text → Answer Text} → KnowsUserParts no_user_helper no_user_decorator (λ t a. a ≡ escape t)
known_escape =
    record { steps = no_user_parts.steps; offer = no_user_parts.offer; actions = no_user_parts.actions; escaped = λ t. known _ }

pub changed_example : ChangedExample
unfolding ◌>>=◌ ◌>>◌ escaped digits
changed_example = gives_text (is_stored refl) (tree_run _ known_actions _) refl

pub last_data_example : LastDataExample
unfolding ◌>>=◌ ◌>>◌ escaped digits
last_data_example = gives_text (is_stored refl) (tree_run _ known_actions _) refl

pub null_example : NullExample
unfolding ◌>>=◌ ◌>>◌ escaped digits
null_example = gives_text (is_stored refl) (tree_run _ known_actions _) refl

pub bound_example : BoundExample
unfolding ◌>>=◌ ◌>>◌ escaped digits
bound_example given = gives_text (is_stored refl) (tree_run _ known_actions _) refl

pub hides_example : HidesExample
unfolding ◌>>=◌ ◌>>◌ escaped digits
hides_example given = gives_text (is_stored refl) (tree_run _ known_actions _) refl

pub unbound_example : UnboundExample
unfolding ◌>>=◌ ◌>>◌ escaped digits
unbound_example given = gives_text (is_stored refl) (tree_run _ known_actions _) refl

pub gone_example : GoneExample
unfolding ◌>>=◌ ◌>>◌ escaped digits
gone_example given = has_begun (is_stored refl) (tree_run _ known_actions _).runs

pub no_body_action_example : NoBodyActionExample
unfolding ◌>>=◌ ◌>>◌ escaped digits
no_body_action_example given = has_begun (is_stored refl) (tree_run _ known_actions _).runs

pub user_escape_example : UserEscapeExample
unfolding ◌>>=◌ ◌>>◌ escaped digits
user_escape_example = gives_text (is_stored refl) (tree_run _ known_escape _) refl

pub failed_escape_example : FailedEscapeExample
unfolding ◌>>=◌ ◌>>◌ escaped digits
failed_escape_example = has_begun (is_stored refl) (tree_run _ known_escape _).runs
