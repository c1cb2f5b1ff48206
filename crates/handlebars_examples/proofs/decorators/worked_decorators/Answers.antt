use Rattle.handlebars_examples.proofs.DecoratorExamples.{nearest_example, no_block_example, no_param_example, no_text_example, no_body_example, unknown_example, silent_example, eval_example, eval_failed_example}
use Rattle.handlebars_examples.proofs.decorators.worked_decorators.Goals as goal

pub returns : goal.returns
returns c = record {
  nearest = nearest_example;
  no_block = no_block_example;
  no_parameter = no_param_example;
  no_text = no_text_example;
  no_body = no_body_example;
  unknown = unknown_example;
  silent = silent_example;
  evaluated = eval_example;
  eval_failed = eval_failed_example;
}
