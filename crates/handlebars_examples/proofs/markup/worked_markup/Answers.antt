use Rattle.handlebars_examples.proofs.MarkupExamples.{title_source_example, blind_example, reading_source_example, reads_texts_example, reading_answers_example, alike_example, empty_text_example, marks_example}
use Rattle.handlebars_examples.proofs.markup.worked_markup.Goals as goal

pub returns : goal.returns
returns c = record {
  title_source = title_source_example;
  blind = blind_example;
  reading_source = reading_source_example;
  reads_texts = reads_texts_example;
  reading_answers = reading_answers_example;
  alike = alike_example;
  empty = empty_text_example;
  marks = marks_example;
}
