use Rattle.handlebars_examples.proofs.HelperExamples.{range_example, spelled_example, minus_zero_example, leading_zero_example, digits_example, boolean_text_example, boolean_block_example, inner_boolean_example, one_value_example, len_example, len_alone_example, log_example, strict_example, strict_null_example, plain_example, hook_example, unregistered_example}
use Rattle.handlebars_examples.proofs.helpers.worked_helpers.Goals as goal

pub returns : goal.returns
returns c = record {
  range = range_example;
  spelled = spelled_example;
  minus_zero = minus_zero_example;
  leading_zero = leading_zero_example;
  digits = digits_example;
  boolean_text = boolean_text_example;
  boolean_block = boolean_block_example;
  inner_boolean = inner_boolean_example;
  one_value = one_value_example;
  len = len_example;
  len_alone = len_alone_example;
  log = log_example;
  strict = strict_example;
  strict_null = strict_null_example;
  plain = plain_example;
  hook = hook_example;
  unregistered = unregistered_example;
}
