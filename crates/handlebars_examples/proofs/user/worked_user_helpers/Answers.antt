use Rattle.handlebars_examples.proofs.UserExamples.{steps_example, no_steps_example, bodiless_example, offer_example, not_offered_example, missing_offer_example, inner_user_example}
use Rattle.handlebars_examples.proofs.user.worked_user_helpers.Goals as goal

pub returns : goal.returns
returns c = record {
  steps = steps_example;
  no_steps = no_steps_example;
  bodiless = bodiless_example;
  offer = offer_example;
  not_offered = not_offered_example;
  missing_offer = missing_offer_example;
  inner = inner_user_example;
}
