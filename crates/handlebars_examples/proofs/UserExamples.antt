-- The outcomes of trees that call user-defined helpers: each run is computed.
use Rattle.std.proofs.Common.{List, Option, refl}
use Rattle.handlebars_base.specs.Answers.{Answer}
use Rattle.handlebars_base.specs.Escape.{escaped}
use Rattle.handlebars_helpers.specs.Escaping.{no_user_escape}
use Rattle.handlebars_helpers.specs.UserHelper.{Offer, Step}
use Rattle.handlebars_helpers.specs.UserDecorator.{no_user_decorator}
use Rattle.handlebars_semantics.specs.Answer.{is_stored, has_begun}
use Rattle.handlebars_semantics.specs.Steps.{◌>>=◌, ◌>>◌}
use Rattle.std.specs.Fmt.{digits}
use Rattle.handlebars_examples.specs.UserExamples.{answering, StepsExample, NoStepsExample, BodilessExample, OfferExample, NotOfferedExample, MissingOfferExample, InnerUserExample}
use Rattle.handlebars_examples.proofs.Answered.{known, no_user_parts, KnowsUserParts}
use Rattle.handlebars_examples.proofs.RunOf.{tree_run, gives_text}

-- user-defined helpers that have one result
abbrev known_user_helper : {steps : Answer (Option (List Step))} {offer : Answer Offer}
    → KnowsUserParts (λ name. answering steps offer) no_user_decorator no_user_escape
known_user_helper = record {
  steps = λ called q. known _;
  offer = λ called q. known _;
  actions = no_user_parts.actions;
  escaped = no_user_parts.escaped;
}

pub steps_example : StepsExample
unfolding ◌>>=◌ ◌>>◌ escaped digits
steps_example = gives_text (is_stored refl) (tree_run _ known_user_helper _) refl

pub no_steps_example : NoStepsExample
unfolding ◌>>=◌ ◌>>◌
no_steps_example given = gives_text (is_stored refl) (tree_run _ known_user_helper _) refl

pub bodiless_example : BodilessExample
unfolding ◌>>=◌ ◌>>◌
bodiless_example given = gives_text (is_stored refl) (tree_run _ known_user_helper _) refl

pub offer_example : OfferExample
unfolding ◌>>=◌ ◌>>◌ escaped
offer_example given = gives_text (is_stored refl) (tree_run _ known_user_helper _) refl

pub not_offered_example : NotOfferedExample
unfolding ◌>>=◌ ◌>>◌
not_offered_example given = gives_text (is_stored refl) (tree_run _ known_user_helper _) refl

pub missing_offer_example : MissingOfferExample
unfolding ◌>>=◌ ◌>>◌
missing_offer_example given = has_begun (is_stored refl) (tree_run _ known_user_helper _).runs

pub inner_user_example : InnerUserExample
unfolding ◌>>=◌ ◌>>◌
inner_user_example given = gives_text (is_stored refl) (tree_run _ known_user_helper _) refl
