use Rattle.handlebars_examples.proofs.InclusionSources.{indented_example, prevented_example, within_example, brackets_example, called_example, partial_inverse_example, partial_name_example, call_name_example}
use Rattle.handlebars_examples.proofs.inclusion_sources.worked_inclusion_sources.Goals as goal

pub returns-clause-indented : goal.returns-clause-indented
returns-clause-indented c = indented_example

pub returns-clause-prevented : goal.returns-clause-prevented
returns-clause-prevented c = prevented_example

pub returns-clause-within_line : goal.returns-clause-within_line
returns-clause-within_line c = within_example

pub returns-clause-brackets : goal.returns-clause-brackets
returns-clause-brackets c = brackets_example

pub returns-clause-called : goal.returns-clause-called
returns-clause-called c = called_example

pub returns-clause-no_inverse : goal.returns-clause-no_inverse
returns-clause-no_inverse c = partial_inverse_example

pub returns-clause-other_name : goal.returns-clause-other_name
returns-clause-other_name c = partial_name_example

pub returns-clause-call_name : goal.returns-clause-call_name
returns-clause-call_name c = call_name_example
