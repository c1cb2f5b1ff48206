use Rattle.handlebars_examples.proofs.LawExamples.{of_sources_example, titles_example, no_other_marks_example, blank_indents_example, hello_example, plain_trees_example, plain_registry_example, plain_markup_example, main_source_example, others_example, source_agrees_example}
use Rattle.handlebars_examples.proofs.laws.worked_laws.Goals as goal

pub returns : goal.returns
returns c = record {
  of_sources = of_sources_example;
  titles = titles_example;
  marks = no_other_marks_example c.escape_laws.ensures.unmarked c.escape_laws.ensures.entities;
  indents = blank_indents_example;
  hello = hello_example;
  plain_trees = plain_trees_example;
  plain_registry = plain_registry_example;
  plain_markup = plain_markup_example;
  main_source = main_source_example;
  others = others_example;
  source_agrees = source_agrees_example;
}
