-- The worked examples with partials compile as stated.
use Rattle.std.proofs.Common.{refl}
use Rattle.std.specs.Str.{chars}
use Rattle.handlebars_base.specs.PathReading as path
use Rattle.handlebars_base.specs.Texts as texts
use Rattle.handlebars_expressions.specs.ExpressionReading as expressions
use Rattle.handlebars_expressions.specs.LiteralReading as literal
use Rattle.handlebars_lexer.specs.Kind.{beginning_of, closing_of}
use Rattle.handlebars_lexer.specs.Options.{no_options}
use Rattle.handlebars_template.proofs.Outcomes.{compilation_of-compiles}
use Rattle.handlebars_examples.specs.InclusionSources.{without_indentation, IndentedSourceExample, PreventedExample, WithinExample, BracketsExample, CalledExample, PartialInverseExample, PartialNameExample, CallNameExample}

pub indented_example : IndentedSourceExample
unfolding beginning_of closing_of chars expressions.name_step expressions.after_step expressions.expression_step texts.after_byte
indented_example = compilation_of-compiles no_options 1 _ _ refl

pub prevented_example : PreventedExample
unfolding beginning_of closing_of chars expressions.name_step expressions.after_step expressions.expression_step texts.after_byte
prevented_example = compilation_of-compiles without_indentation 1 _ _ refl

pub within_example : WithinExample
unfolding beginning_of closing_of chars expressions.name_step expressions.after_step expressions.expression_step texts.after_byte
within_example = compilation_of-compiles no_options 1 _ _ refl

pub brackets_example : BracketsExample
unfolding beginning_of closing_of chars expressions.name_step expressions.after_step expressions.expression_step texts.after_byte path.plain_at path.part_at path.links_at path.links_of path.start_without_at_sign path.start_at path.shape_at path.shape_of path.reference_from path.path_at expressions.key_and_equals_at expressions.parameter_step expressions.item_step literal.literal_at literal.after_scalar literal.undoubled_at literal.unbracketed_at literal.value_token literal.token_at
brackets_example = compilation_of-compiles no_options 2 _ _ refl

pub called_example : CalledExample
unfolding beginning_of closing_of chars expressions.name_step expressions.after_step expressions.expression_step texts.after_byte path.plain_at path.part_at path.links_at path.links_of path.start_without_at_sign path.start_at path.shape_at path.shape_of path.reference_from path.path_at expressions.key_and_equals_at expressions.parameter_step expressions.item_step literal.literal_at literal.after_scalar literal.undoubled_at literal.unbracketed_at literal.value_token literal.token_at
called_example = compilation_of-compiles no_options 2 _ _ refl

pub partial_inverse_example : PartialInverseExample
unfolding beginning_of closing_of chars expressions.name_step expressions.after_step expressions.expression_step texts.after_byte
partial_inverse_example = compilation_of-compiles no_options 2 _ _ refl

pub partial_name_example : PartialNameExample
unfolding beginning_of closing_of chars expressions.name_step expressions.after_step expressions.expression_step texts.after_byte
partial_name_example = compilation_of-compiles no_options 2 _ _ refl

pub call_name_example : CallNameExample
unfolding beginning_of closing_of chars expressions.name_step expressions.after_step expressions.expression_step texts.after_byte path.plain_at path.part_at path.links_at path.links_of path.start_without_at_sign path.start_at path.shape_at path.shape_of path.reference_from path.path_at
call_name_example = compilation_of-compiles no_options 2 _ _ refl
