use Rattle.handlebars_examples.proofs.SourceExamples.{empty_example, value_example, escaped_example, member_example, unclosed_example, position_example, html_example, ampersand_example, call_example, nested_example, up_example, chain_example, lines_example, tilde_example, inverse_example, raw_example, else_example, close_example, open_example, deep_example, other_name_example, number_example, decorator_example, decorator_block_example, decorator_inverse_example, decorator_name_example}
use Rattle.handlebars_examples.proofs.sources.worked_sources.Goals as goal

pub returns-clause-empty : goal.returns-clause-empty
returns-clause-empty c = empty_example

pub returns-clause-value : goal.returns-clause-value
returns-clause-value c = value_example

pub returns-clause-escaped : goal.returns-clause-escaped
returns-clause-escaped c = escaped_example

pub returns-clause-member : goal.returns-clause-member
returns-clause-member c = member_example

pub returns-clause-unclosed : goal.returns-clause-unclosed
returns-clause-unclosed c = unclosed_example

pub returns-clause-position : goal.returns-clause-position
returns-clause-position c = position_example

pub returns-clause-html_tag : goal.returns-clause-html_tag
returns-clause-html_tag c = html_example

pub returns-clause-ampersand_tag : goal.returns-clause-ampersand_tag
returns-clause-ampersand_tag c = ampersand_example

pub returns-clause-call_tag : goal.returns-clause-call_tag
returns-clause-call_tag c = call_example

pub returns-clause-nested_tag : goal.returns-clause-nested_tag
returns-clause-nested_tag c = nested_example

pub returns-clause-up_tag : goal.returns-clause-up_tag
returns-clause-up_tag c = up_example

pub returns-clause-chain_block : goal.returns-clause-chain_block
returns-clause-chain_block c = chain_example

pub returns-clause-lines_example : goal.returns-clause-lines_example
returns-clause-lines_example c = lines_example

pub returns-clause-tilde_example : goal.returns-clause-tilde_example
returns-clause-tilde_example c = tilde_example

pub returns-clause-inverse_example : goal.returns-clause-inverse_example
returns-clause-inverse_example c = inverse_example

pub returns-clause-raw_block : goal.returns-clause-raw_block
returns-clause-raw_block c = raw_example

pub returns-clause-else_tag : goal.returns-clause-else_tag
returns-clause-else_tag c = else_example

pub returns-clause-close_tag : goal.returns-clause-close_tag
returns-clause-close_tag c = close_example

pub returns-clause-open_block : goal.returns-clause-open_block
returns-clause-open_block c = open_example

pub returns-clause-other_name : goal.returns-clause-other_name
returns-clause-other_name c = other_name_example

pub returns-clause-number_example : goal.returns-clause-number_example
returns-clause-number_example c = number_example

pub returns-clause-deep_call : goal.returns-clause-deep_call
returns-clause-deep_call c = deep_example

pub returns-clause-decorator_tag : goal.returns-clause-decorator_tag
returns-clause-decorator_tag c = decorator_example

pub returns-clause-decorator_block : goal.returns-clause-decorator_block
returns-clause-decorator_block c = decorator_block_example

pub returns-clause-decorator_inverse : goal.returns-clause-decorator_inverse
returns-clause-decorator_inverse c = decorator_inverse_example

pub returns-clause-decorator_name : goal.returns-clause-decorator_name
returns-clause-decorator_name c = decorator_name_example
