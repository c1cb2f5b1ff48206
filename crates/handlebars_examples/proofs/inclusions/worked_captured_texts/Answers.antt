use Rattle.handlebars_examples.proofs.CapturedExamples.{as_captured_example, set_ahead_example, name_as_before_example, default_block_example, captured_as_before_example, bound_pair_example, ahead_count_example, line_end_example}
use Rattle.handlebars_examples.proofs.inclusions.worked_captured_texts.Goals as goal

pub returns : goal.returns
returns c = record {
  as_captured = as_captured_example;
  set_ahead = set_ahead_example;
  name_as_before = name_as_before_example;
  default_block = default_block_example;
  captured_as_before = captured_as_before_example;
  bound_pair = bound_pair_example;
  ahead_count = ahead_count_example;
  line_end = line_end_example;
}
