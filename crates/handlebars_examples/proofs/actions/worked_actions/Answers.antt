use Rattle.handlebars_examples.proofs.ActionExamples.{changed_example, last_data_example, null_example, bound_example, hides_example, unbound_example, gone_example, no_body_action_example, user_escape_example, failed_escape_example}
use Rattle.handlebars_examples.proofs.actions.worked_actions.Goals as goal

pub returns : goal.returns
returns c = record {
  changed = changed_example;
  last_data = last_data_example;
  null = null_example;
  bound = bound_example;
  hides = hides_example;
  unbound = unbound_example;
  gone = gone_example;
  no_body_action = no_body_action_example;
  user_escape = user_escape_example;
  failed_escape = failed_escape_example;
}
