use Rattle.handlebars_examples.proofs.WorkedExamples.{empty_example, value_example, markup_example, missing_example, escaped_example, refusal_example, unclosed_example, raw_example, call_example, inner_example, name_example, literal_example, if_example, no_inverse_example, chain_example, no_param_example, block_example, inner_if_example, capture_example}
use Rattle.handlebars_examples.proofs.examples.worked_examples.Goals as goal

pub returns : goal.returns
returns c = record {
  empty = empty_example;
  value = value_example;
  markup = markup_example;
  missing = missing_example;
  escaped = escaped_example;
  refusal = refusal_example;
  unclosed = unclosed_example;
  raw = raw_example;
  call = call_example;
  inner = inner_example;
  name = name_example;
  literal = literal_example;
  if_else = if_example;
  no_inverse = no_inverse_example;
  chain = chain_example;
  no_parameter = no_param_example;
  unknown_block = block_example;
  inner_if = inner_if_example;
  capture = capture_example;
}
