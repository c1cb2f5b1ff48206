-- The worked examples compile as stated.
use Rattle.std.proofs.Common.{[], ◌∷◌, ◌++◌, refl, codes, arith}
use Rattle.std.specs.Str.{chars}
use Rattle.json.specs.Json as json
use Rattle.json.specs.Lex.{lex, punctuate}
use Rattle.json.specs.Word.{word, after_number}
use Rattle.handlebars_base.specs.Bytes.{backslash, right_brace, newline}
use Rattle.handlebars_base.specs.PathReading as path
use Rattle.handlebars_base.specs.Texts as texts
use Rattle.handlebars_expressions.specs.Binding.{after_bar, after_beginning}
use Rattle.handlebars_expressions.specs.Expression.{value_name, in_tag}
use Rattle.handlebars_expressions.specs.ExpressionReading as expressions
use Rattle.handlebars_expressions.specs.Literal.{is_in_range, number_of}
use Rattle.handlebars_expressions.specs.LiteralReading as literal
use Rattle.handlebars_expressions.specs.LiteralValueReading.{literal_value_of, before}
use Rattle.handlebars_lexer.specs.Text.{two_braces, IsText, at_tag, a_byte, two_escaped}
use Rattle.handlebars_lexer.specs.Kind.{beginning_of, closing_of}
use Rattle.handlebars_lexer.specs.Options.{no_options}
use Rattle.handlebars_template.specs.Compile.{compiled, rejected, syntax_refusal}
use Rattle.handlebars_examples.specs.SourceExamples.{at, chain_tree, deep_source, EmptySourceExample, ValueSourceExample, EscapedSourceExample, MemberExample, UnclosedSourceExample, PositionExample, HtmlExample, AmpersandExample, CallSourceExample, NestedExample, UpSourceExample, ChainSourceExample, LinesExample, TildeExample, InverseExample, RawSourceExample, ElseExample, CloseExample, OpenExample, DeepExample, OtherNameExample, NumberExample, DecoratorExample, DecoratorBlockExample, DecoratorInverseExample, DecoratorNameExample}
use Rattle.handlebars_template.proofs.Running.{parsed_text-is, no_expression_at, no_value_tag}
use Rattle.handlebars_template.proofs.Outcomes.{compilation_of-compiles, compilation_from-compiles, first_tag, first_unreadable}

pub empty_example : EmptySourceExample
empty_example = compilation_of-compiles no_options 0 _ _ refl

-- ---- values

pub value_example : ValueSourceExample
unfolding beginning_of closing_of chars expressions.name_step expressions.after_step expressions.expression_step texts.after_byte path.plain_at path.part_at path.links_at path.links_of path.start_without_at_sign path.start_at path.shape_at path.shape_of path.reference_from path.path_at
value_example = compilation_of-compiles no_options 1 _ _ refl

-- one backslash makes two braces text, and of two backslashes the first is dropped
escaped_text : IsText two_braces (codes "{{a}}") (backslash ∷ (codes "{{a}} " ++ (backslash ∷ backslash ∷ []))) (codes "{{a}} " ++ (backslash ∷ []))
escaped_text = two_escaped refl refl (a_byte 97 refl (a_byte right_brace refl (a_byte right_brace refl (a_byte 32 refl (at_tag 2 refl (λ e. absurd (omega (arith, e))))))))

pub escaped_example : EscapedSourceExample
unfolding beginning_of closing_of chars expressions.name_step expressions.after_step expressions.expression_step texts.after_byte path.plain_at path.part_at path.links_at path.links_of path.start_without_at_sign path.start_at path.shape_at path.shape_of path.reference_from path.path_at
escaped_example =
    compilation_from-compiles no_options _ 0 _ _
    (first_tag no_options (backslash ∷ (codes "{{a}} " ++ (backslash ∷ backslash ∷ []))) (codes "{{a}} " ++ (backslash ∷ [])) (codes "{{a}}") [] _ escaped_text refl refl) refl

pub member_example : MemberExample
unfolding beginning_of closing_of chars expressions.name_step expressions.after_step expressions.expression_step texts.after_byte path.plain_at path.part_at path.links_at path.links_of path.start_without_at_sign path.start_at path.shape_at path.shape_of path.reference_from path.path_at path.link_at
member_example = compilation_of-compiles no_options 1 _ _ refl

pub html_example : HtmlExample
unfolding beginning_of closing_of chars expressions.name_step expressions.after_step expressions.expression_step texts.after_byte path.plain_at path.part_at path.links_at path.links_of path.start_without_at_sign path.start_at path.shape_at path.shape_of path.reference_from path.path_at
html_example = compilation_of-compiles no_options 1 _ _ refl

pub ampersand_example : AmpersandExample
unfolding beginning_of closing_of chars expressions.name_step expressions.after_step expressions.expression_step texts.after_byte path.plain_at path.part_at path.links_at path.links_of path.start_without_at_sign path.start_at path.shape_at path.shape_of path.reference_from path.path_at
ampersand_example = compilation_of-compiles no_options 1 _ _ refl

pub up_example : UpSourceExample
unfolding beginning_of closing_of chars expressions.name_step expressions.after_step expressions.expression_step texts.after_byte path.plain_at path.part_at path.links_at path.links_of path.start_without_at_sign path.start_at path.shape_at path.shape_of path.reference_from path.path_at path.after_up path.ups_at path.link_at
up_example = compilation_of-compiles no_options 1 _ _ refl

-- ---- calls

pub call_example : CallSourceExample
unfolding beginning_of closing_of chars expressions.name_step expressions.after_step expressions.expression_step texts.after_byte path.plain_at path.part_at path.links_at path.links_of path.start_without_at_sign path.start_at path.shape_at path.shape_of path.reference_from path.path_at expressions.key_and_equals_at expressions.parameter_step expressions.item_step literal.literal_at literal.after_scalar literal.undoubled_at literal.unbracketed_at literal.value_token literal.token_at
call_example = compilation_of-compiles no_options 1 _ _ refl

pub nested_example : NestedExample
unfolding beginning_of closing_of chars expressions.name_step expressions.after_step expressions.expression_step texts.after_byte path.plain_at path.part_at path.links_at path.links_of path.start_without_at_sign path.start_at path.shape_at path.shape_of path.reference_from path.path_at expressions.key_and_equals_at expressions.parameter_step expressions.item_step literal.literal_at literal.after_scalar literal.undoubled_at literal.unbracketed_at literal.value_token literal.token_at
nested_example = compilation_of-compiles no_options 1 _ _ refl

pub number_example : NumberExample
unfolding beginning_of closing_of chars expressions.name_step expressions.after_step expressions.expression_step texts.after_byte path.plain_at path.part_at path.links_at path.links_of path.start_without_at_sign path.start_at path.shape_at path.shape_of path.reference_from path.path_at expressions.key_and_equals_at expressions.parameter_step expressions.item_step literal.literal_at literal.after_scalar literal.undoubled_at literal.unbracketed_at literal.value_token literal.token_at literal.in_range_at is_in_range number_of literal_value_of before json.value lex punctuate word after_number
number_example = compilation_of-compiles no_options 1 _ _ refl

-- ---- braces that begin no tag

pub unclosed_example : UnclosedSourceExample
unfolding beginning_of closing_of chars expressions.name_step expressions.after_step expressions.expression_step texts.after_byte path.plain_at path.part_at path.links_at path.links_of path.start_without_at_sign path.start_at path.shape_at path.shape_of path.reference_from path.path_at
unclosed_example =
    first_unreadable no_options (codes "ab") (codes "{{name") (parsed_text-is two_braces (codes "ab{{name") (codes "ab", codes "{{name") refl).is_text refl
    (no_value_tag (codes "{{name") (codes "name") _ refl (no_expression_at value_name in_tag (codes "name") refl))

pub position_example : PositionExample
unfolding beginning_of closing_of chars expressions.name_step expressions.after_step expressions.expression_step texts.after_byte path.plain_at path.part_at path.links_at path.links_of path.start_without_at_sign path.start_at path.shape_at path.shape_of path.reference_from path.path_at
position_example =
    first_unreadable no_options (newline ∷ 195 ∷ 169 ∷ []) (codes "{{a") (parsed_text-is two_braces (newline ∷ 195 ∷ 169 ∷ codes "{{a") (newline ∷ 195 ∷ 169 ∷ [], codes "{{a") refl).is_text refl
    (no_value_tag (codes "{{a") (codes "a") _ refl (no_expression_at value_name in_tag (codes "a") refl))

-- ---- blocks

pub chain_example : ChainSourceExample
unfolding beginning_of closing_of chars expressions.name_step expressions.after_step expressions.expression_step texts.after_byte path.plain_at path.part_at path.links_at path.links_of path.start_without_at_sign path.start_at path.shape_at path.shape_of path.reference_from path.path_at expressions.key_and_equals_at expressions.parameter_step expressions.item_step literal.literal_at literal.after_scalar literal.undoubled_at literal.unbracketed_at literal.value_token literal.token_at after_bar after_beginning
chain_example = compilation_of-compiles no_options 4 (codes "{{#if a}}1{{else if b}}2{{else}}0{{/if}}") (compiled chain_tree) refl

pub lines_example : LinesExample
unfolding beginning_of closing_of chars expressions.name_step expressions.after_step expressions.expression_step texts.after_byte path.plain_at path.part_at path.links_at path.links_of path.start_without_at_sign path.start_at path.shape_at path.shape_of path.reference_from path.path_at expressions.key_and_equals_at expressions.parameter_step expressions.item_step literal.literal_at literal.after_scalar literal.undoubled_at literal.unbracketed_at literal.value_token literal.token_at after_bar after_beginning
lines_example = compilation_of-compiles no_options 2 _ _ refl

pub tilde_example : TildeExample
unfolding beginning_of closing_of chars expressions.name_step expressions.after_step expressions.expression_step texts.after_byte path.plain_at path.part_at path.links_at path.links_of path.start_without_at_sign path.start_at path.shape_at path.shape_of path.reference_from path.path_at expressions.key_and_equals_at expressions.parameter_step expressions.item_step literal.literal_at literal.after_scalar literal.undoubled_at literal.unbracketed_at literal.value_token literal.token_at after_bar after_beginning literal.in_range_at is_in_range number_of literal_value_of before json.value lex punctuate word after_number
tilde_example = compilation_of-compiles no_options 3 _ _ refl

pub inverse_example : InverseExample
unfolding beginning_of closing_of chars expressions.name_step expressions.after_step expressions.expression_step texts.after_byte path.plain_at path.part_at path.links_at path.links_of path.start_without_at_sign path.start_at path.shape_at path.shape_of path.reference_from path.path_at expressions.key_and_equals_at expressions.parameter_step expressions.item_step literal.literal_at literal.after_scalar literal.undoubled_at literal.unbracketed_at literal.value_token literal.token_at after_bar after_beginning
inverse_example = compilation_of-compiles no_options 3 _ _ refl

pub raw_example : RawSourceExample
unfolding beginning_of closing_of chars expressions.name_step expressions.after_step expressions.expression_step texts.after_byte path.plain_at path.part_at path.links_at path.links_of path.start_without_at_sign path.start_at path.shape_at path.shape_of path.reference_from path.path_at expressions.key_and_equals_at expressions.parameter_step expressions.item_step literal.literal_at literal.after_scalar literal.undoubled_at literal.unbracketed_at literal.value_token literal.token_at after_bar after_beginning
raw_example = compilation_of-compiles no_options 2 _ _ refl

-- ---- errors of the nesting

pub else_example : ElseExample
unfolding beginning_of closing_of texts.after_byte chars
else_example = compilation_of-compiles no_options 1 _ _ refl

pub close_example : CloseExample
unfolding beginning_of closing_of texts.after_byte chars
close_example = compilation_of-compiles no_options 1 _ _ refl

pub open_example : OpenExample
unfolding beginning_of closing_of chars expressions.name_step expressions.after_step expressions.expression_step texts.after_byte path.plain_at path.part_at path.links_at path.links_of path.start_without_at_sign path.start_at path.shape_at path.shape_of path.reference_from path.path_at expressions.key_and_equals_at expressions.parameter_step expressions.item_step literal.literal_at literal.after_scalar literal.undoubled_at literal.unbracketed_at literal.value_token literal.token_at after_bar after_beginning
open_example = compilation_of-compiles no_options 1 _ _ refl

pub deep_example : DeepExample
unfolding beginning_of closing_of chars expressions.name_step expressions.after_step expressions.expression_step texts.after_byte path.plain_at path.part_at path.links_at path.links_of path.start_without_at_sign path.start_at path.shape_at path.shape_of path.reference_from path.path_at expressions.key_and_equals_at expressions.parameter_step expressions.item_step literal.literal_at literal.after_scalar literal.undoubled_at literal.unbracketed_at literal.value_token literal.token_at after_bar after_beginning
deep_example = compilation_of-compiles no_options 1 deep_source (rejected (syntax_refusal (codes "nesting too deep") no_options (at 1 1))) refl

pub other_name_example : OtherNameExample
unfolding beginning_of closing_of chars expressions.name_step expressions.after_step expressions.expression_step texts.after_byte path.plain_at path.part_at path.links_at path.links_of path.start_without_at_sign path.start_at path.shape_at path.shape_of path.reference_from path.path_at expressions.key_and_equals_at expressions.parameter_step expressions.item_step literal.literal_at literal.after_scalar literal.undoubled_at literal.unbracketed_at literal.value_token literal.token_at after_bar after_beginning
other_name_example = compilation_of-compiles no_options 2 _ _ refl

-- ---- decorators

pub decorator_example : DecoratorExample
unfolding beginning_of closing_of chars expressions.name_step expressions.after_step expressions.expression_step texts.after_byte path.plain_at path.part_at path.links_at path.links_of path.start_without_at_sign path.start_at path.shape_at path.shape_of path.reference_from path.path_at expressions.key_and_equals_at expressions.parameter_step expressions.item_step literal.literal_at literal.after_scalar literal.undoubled_at literal.unbracketed_at literal.value_token literal.token_at after_bar after_beginning
decorator_example = compilation_of-compiles no_options 1 _ _ refl

pub decorator_block_example : DecoratorBlockExample
unfolding beginning_of closing_of chars expressions.name_step expressions.after_step expressions.expression_step texts.after_byte path.plain_at path.part_at path.links_at path.links_of path.start_without_at_sign path.start_at path.shape_at path.shape_of path.reference_from path.path_at expressions.key_and_equals_at expressions.parameter_step expressions.item_step literal.literal_at literal.after_scalar literal.undoubled_at literal.unbracketed_at literal.value_token literal.token_at after_bar after_beginning
decorator_block_example = compilation_of-compiles no_options 2 _ _ refl

pub decorator_inverse_example : DecoratorInverseExample
unfolding beginning_of closing_of chars expressions.name_step expressions.after_step expressions.expression_step texts.after_byte path.plain_at path.part_at path.links_at path.links_of path.start_without_at_sign path.start_at path.shape_at path.shape_of path.reference_from path.path_at expressions.key_and_equals_at expressions.parameter_step expressions.item_step literal.literal_at literal.after_scalar literal.undoubled_at literal.unbracketed_at literal.value_token literal.token_at after_bar after_beginning
decorator_inverse_example = compilation_of-compiles no_options 2 _ _ refl

pub decorator_name_example : DecoratorNameExample
unfolding beginning_of closing_of chars expressions.name_step expressions.after_step expressions.expression_step texts.after_byte path.plain_at path.part_at path.links_at path.links_of path.start_without_at_sign path.start_at path.shape_at path.shape_of path.reference_from path.path_at expressions.key_and_equals_at expressions.parameter_step expressions.item_step literal.literal_at literal.after_scalar literal.undoubled_at literal.unbracketed_at literal.value_token literal.token_at after_bar after_beginning
decorator_name_example = compilation_of-compiles no_options 2 _ _ refl
