-- What the worked examples of helpers compile to.
use Rattle.std.proofs.Common.{ℕ, [], ◌∷◌, None, true, refl, codes}
use Rattle.std.specs.Str.{chars}
use Rattle.std.specs.Prelude.{⊤}
use Rattle.serde_json.specs.Data.{string}
use Rattle.serde_json.proofs.OnLiterals.{serde_json_on_literals}
use Rattle.handlebars_base.specs.Bytes.{Text}
use Rattle.handlebars_base.specs.PathReading as path
use Rattle.handlebars_base.specs.Texts as texts
use Rattle.handlebars_expressions.specs.Binding.{after_bar, after_beginning}
use Rattle.handlebars_expressions.specs.ExpressionReading as expressions
use Rattle.handlebars_expressions.specs.Literal.{is_in_range, number_of}
use Rattle.handlebars_expressions.specs.LiteralReading as literal
use Rattle.handlebars_expressions.specs.LiteralValueReading.{literal_value_of, before}
use Rattle.handlebars_lexer.specs.Kind.{beginning_of, closing_of}
use Rattle.handlebars_template.specs.Calls.{plain_call, plain_marks}
use Rattle.handlebars_lexer.specs.Options.{no_options}
use Rattle.handlebars_template.specs.Compile.{Compiles, compiled}
use Rattle.handlebars_examples.specs.SourceExamples.{at, alone_at_start, path_to, named_call}
use Rattle.handlebars_template.specs.Tree.{Tree, tree, elements_of, Element, raw_string, escaped_expression, helper_block, call, args, no_arguments, bodies, Body, no_body, body, no_binding, Params, no_params, param, no_hash, Param, name, literal, subexpression}
use Rattle.handlebars_template.proofs.Outcomes.{compilation_of-compiles}
use Rattle.handlebars_examples.specs.ScopeExamples.{natural}

-- ---- what is unfolded to compile a source: of each tag, of parameters, and of literals

unfoldable pub on_expressions : ⊤
unfolding beginning_of closing_of chars expressions.name_step expressions.after_step expressions.expression_step texts.after_byte path.plain_at path.part_at path.links_at path.links_of path.start_without_at_sign path.start_at path.shape_at path.shape_of path.reference_from path.path_at
on_expressions = tt

unfoldable pub on_parameters : ⊤
unfolding expressions.key_and_equals_at expressions.parameter_step expressions.item_step literal.literal_at literal.after_scalar literal.undoubled_at literal.unbracketed_at literal.value_token literal.token_at
on_parameters = tt

unfoldable pub on_literals : ⊤
unfolding literal.in_range_at is_in_range number_of literal_value_of before serde_json_on_literals
on_literals = tt

-- ---- trees

-- a number as a parameter
abbrev numeral : ℕ → Param
numeral n = literal (natural n)

-- a text at its position, as a body
abbrev text_at : ℕ → ℕ → Text → Body
text_at l column t = body (tree None (elements_of (raw_string t ∷ [])) (at l column ∷ []))

-- a block: its name, its parameters, its body and its inverse
abbrev block_of : Text → Params → Body → Body → Element
block_of n ps t i =
    helper_block (call (name n) (args ps no_hash) no_binding (bodies t i)
    (record plain_marks { block = true }))

-- a name alone
abbrev lone : Text → Element
lone n = escaped_expression (plain_call (path_to n) no_arguments)

abbrev pub word_tree : Tree
word_tree = alone_at_start (escaped_expression (plain_call (name (codes "eq")) (args (param (numeral 1) (param (numeral 1) no_params)) no_hash)))

pub word_source : Compiles (codes "{{eq 1 1}}") no_options (compiled word_tree)
unfolding on_expressions on_parameters on_literals
word_source = compilation_of-compiles no_options 1 _ _ refl

abbrev pub boolean_block_tree : Tree
boolean_block_tree = alone_at_start (block_of (codes "eq") (param (numeral 1) (param (numeral 2) no_params))
    (text_at 1 12 (codes "y")) (text_at 1 21 (codes "n")))

pub boolean_block_source : Compiles (codes "{{#eq 1 2}}y{{else}}n{{/eq}}") no_options (compiled boolean_block_tree)
unfolding on_expressions on_parameters after_bar after_beginning on_literals
boolean_block_source = compilation_of-compiles no_options 3 _ _ refl

abbrev pub inner_boolean_tree : Tree
inner_boolean_tree = alone_at_start (block_of (codes "if")
    (param (subexpression (named_call (codes "not") (path_to (codes "a")))) no_params)
    (text_at 1 16 (codes "y")) no_body)

pub inner_boolean_source : Compiles (codes "{{#if (not a)}}y{{/if}}") no_options (compiled inner_boolean_tree)
unfolding on_expressions on_parameters after_bar after_beginning
inner_boolean_source = compilation_of-compiles no_options 2 _ _ refl

abbrev pub one_value_tree : Tree
one_value_tree = alone_at_start (named_call (codes "eq") (numeral 1))

pub one_value_source : Compiles (codes "{{eq 1}}") no_options (compiled one_value_tree)
unfolding on_expressions on_parameters on_literals
one_value_source = compilation_of-compiles no_options 1 _ _ refl

abbrev pub len_tree : Tree
len_tree = alone_at_start (named_call (codes "len") (literal (string (codes "ab"))))

pub len_source : Compiles (codes "{{len \"ab\"}}") no_options (compiled len_tree)
unfolding on_expressions on_parameters on_literals
len_source = compilation_of-compiles no_options 1 _ _ refl

abbrev pub len_alone_tree : Tree
len_alone_tree = tree None (elements_of (raw_string (codes "ab") ∷ lone (codes "len") ∷ raw_string (codes "c") ∷ []))
    (at 1 1 ∷ at 1 3 ∷ at 1 10 ∷ [])

pub len_alone_source : Compiles (codes "ab{{len}}c") no_options (compiled len_alone_tree)
unfolding on_expressions on_parameters
len_alone_source = compilation_of-compiles no_options 1 _ _ refl

abbrev pub log_tree : Tree
log_tree = alone_at_start (named_call (codes "log") (path_to (codes "a")))

pub log_source : Compiles (codes "{{log a}}") no_options (compiled log_tree)
unfolding on_expressions on_parameters
log_source = compilation_of-compiles no_options 1 _ _ refl

abbrev pub lone_tree : Tree
lone_tree = alone_at_start (lone (codes "x"))

pub lone_source : Compiles (codes "{{x}}") no_options (compiled lone_tree)
unfolding on_expressions
lone_source = compilation_of-compiles no_options 1 _ _ refl

abbrev pub hook_tree : Tree
hook_tree = alone_at_start (named_call (codes "x") (literal (string (codes "ab"))))

pub hook_source : Compiles (codes "{{x \"ab\"}}") no_options (compiled hook_tree)
unfolding on_expressions on_parameters on_literals
hook_source = compilation_of-compiles no_options 1 _ _ refl

abbrev pub unregistered_tree : Tree
unregistered_tree = alone_at_start (lone (codes "len"))

pub unregistered_source : Compiles (codes "{{len}}") no_options (compiled unregistered_tree)
unfolding on_expressions
unregistered_source = compilation_of-compiles no_options 1 _ _ refl
