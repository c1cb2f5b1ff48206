use Rattle.handlebars_examples.proofs.PieceExamples.{layout_source_example, item_source_example, pieces_example, iterations_example, iterations_emitted_example, in_item_emitted_example}
use Rattle.handlebars_examples.proofs.pieces.worked_pieces.Goals as goal

pub returns : goal.returns
returns c = record {
  layout_source = layout_source_example;
  item_source = item_source_example;
  pieces = pieces_example;
  iterations = iterations_example;
  iterations_emitted = iterations_emitted_example;
  included_emitted = in_item_emitted_example;
}
