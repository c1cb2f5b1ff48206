use Rattle.handlebars_examples.proofs.InclusionExamples.{indented_example, not_indented_example, nested_indent_example, not_found_example, own_block_example, local_example, called_name_example, next_iteration_example, merged_example, layout_example, no_captured_example, failed_ahead_example, self_example, limit_reached_example, full_example}
use Rattle.handlebars_examples.proofs.inclusions.worked_inclusions.Goals as goal

pub returns : goal.returns
returns c = record {
  indented = indented_example;
  not_indented = not_indented_example;
  nested_indent = nested_indent_example;
  not_found = not_found_example;
  own_block = own_block_example;
  local = local_example;
  called_name = called_name_example;
  next_iteration = next_iteration_example;
  merged = merged_example;
  layout = layout_example;
  no_captured = no_captured_example;
  failed_ahead = failed_ahead_example;
  itself = self_example;
  limit_reached = limit_reached_example;
  full = full_example;
}
