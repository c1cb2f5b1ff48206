use Rattle.handlebars_examples.proofs.SectionExamples.{array_example, object_example, boolean_example, no_value_example, parameter_example, no_sections_example}
use Rattle.handlebars_examples.proofs.sections.worked_sections.Goals as goal

pub returns : goal.returns
returns c = record {
  over_array = array_example;
  over_object = object_example;
  over_boolean = boolean_example;
  no_value = no_value_example;
  parameter = parameter_example;
  no_sections = no_sections_example;
}
