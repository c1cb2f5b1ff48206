-- What the worked examples of scopes compile to.
use Rattle.std.proofs.Common.{ℕ, List, [], ◌∷◌, None, true, refl, codes}
use Rattle.std.specs.Str.{chars}
use Rattle.handlebars_base.specs.Bytes.{Text}
use Rattle.handlebars_base.specs.Path.{Segment, named, up, relative, variable}
use Rattle.handlebars_base.specs.PathReading as path
use Rattle.handlebars_base.specs.Texts as texts
use Rattle.handlebars_expressions.specs.Binding.{after_bar, after_beginning}
use Rattle.handlebars_expressions.proofs.BindingReading.{symbols_at}
use Rattle.handlebars_expressions.specs.ExpressionReading as expressions
use Rattle.handlebars_expressions.specs.LiteralReading as literal
use Rattle.handlebars_lexer.specs.Kind.{beginning_of, closing_of}
use Rattle.handlebars_template.specs.Calls.{plain_call, plain_marks}
use Rattle.handlebars_lexer.specs.Options.{no_options}
use Rattle.handlebars_template.specs.Compile.{Compiles, compiled}
use Rattle.handlebars_template.specs.Position.{Position}
use Rattle.handlebars_examples.specs.SourceExamples.{at, alone_at_start, path_to}
use Rattle.handlebars_template.specs.Tree.{Tree, tree, elements_of, Element, raw_string, escaped_expression, helper_block, call, args, no_arguments, bodies, Body, no_body, body, Binding, no_binding, single, both, no_params, param, no_hash, Param, name, path}
use Rattle.handlebars_template.proofs.Outcomes.{compilation_of-compiles}

-- a path by its segments, and a path to a variable of the scope so many levels up, as written
abbrev along : List Segment → Text → Param
along segments written = path (relative segments written)

abbrev variable_of : ℕ → Text → Text → Param
variable_of level n written = path (variable level n written)

abbrev this : Param
this = along [] (codes "this")

-- the expression that writes a parameter
abbrev show : Param → Element
show q = escaped_expression (plain_call q no_arguments)

abbrev lookup : Param → Param → Element
lookup q key = escaped_expression (plain_call (name (codes "lookup")) (args (param q (param key no_params)) no_hash))

-- elements at their positions
abbrev inside : List Element → List Position → Tree
inside es positions = tree None (elements_of es) positions

-- a block: its name, its parameter, the names that it binds, its body and its inverse
abbrev scope : Text → Param → Binding → Tree → Body → Element
scope n q names t i =
    helper_block (call (name n) (args (param q no_params) no_hash) names (bodies (body t) i)
    (record plain_marks { block = true }))

abbrev pub array_name_tree : Tree
array_name_tree = alone_at_start (scope (codes "each") (path_to (codes "a")) no_binding
    (inside (show (path_to (codes "x")) ∷ []) (at 1 12 ∷ [])) no_body)

pub array_name_source : Compiles (codes "{{#each a}}{{x}}{{/each}}") no_options (compiled array_name_tree)
unfolding beginning_of closing_of chars expressions.name_step expressions.after_step expressions.expression_step texts.after_byte path.plain_at path.part_at path.links_at path.links_of path.start_without_at_sign path.start_at path.shape_at path.shape_of path.reference_from path.path_at expressions.key_and_equals_at expressions.parameter_step expressions.item_step literal.literal_at literal.after_scalar literal.undoubled_at literal.unbracketed_at literal.value_token literal.token_at after_bar after_beginning
array_name_source = compilation_of-compiles no_options 3 _ _ refl

abbrev pub two_names_tree : Tree
two_names_tree = alone_at_start (scope (codes "each") (path_to (codes "a")) (both (name (codes "v")) (name (codes "k")))
    (inside (show (path_to (codes "k")) ∷ show (path_to (codes "v")) ∷ raw_string (codes ";") ∷ [])
    (at 1 21 ∷ at 1 26 ∷ at 1 31 ∷ [])) no_body)

pub two_names_source : Compiles (codes "{{#each a as |v k|}}{{k}}{{v}};{{/each}}") no_options (compiled two_names_tree)
unfolding beginning_of closing_of chars expressions.name_step expressions.after_step expressions.expression_step texts.after_byte path.plain_at path.part_at path.links_at path.links_of path.start_without_at_sign path.start_at path.shape_at path.shape_of path.reference_from path.path_at expressions.key_and_equals_at expressions.parameter_step expressions.item_step literal.literal_at literal.after_scalar literal.undoubled_at literal.unbracketed_at literal.value_token literal.token_at after_bar after_beginning symbols_at
two_names_source = compilation_of-compiles no_options 4 _ _ refl

abbrev pub shadow_tree : Tree
shadow_tree = alone_at_start (scope (codes "each") (path_to (codes "a")) (single (name (codes "x")))
    (inside (show (path_to (codes "x")) ∷ []) (at 1 19 ∷ [])) no_body)

pub shadow_source : Compiles (codes "{{#each a as |x|}}{{x}}{{/each}}") no_options (compiled shadow_tree)
unfolding beginning_of closing_of chars expressions.name_step expressions.after_step expressions.expression_step texts.after_byte path.plain_at path.part_at path.links_at path.links_of path.start_without_at_sign path.start_at path.shape_at path.shape_of path.reference_from path.path_at expressions.key_and_equals_at expressions.parameter_step expressions.item_step literal.literal_at literal.after_scalar literal.undoubled_at literal.unbracketed_at literal.value_token literal.token_at after_bar after_beginning symbols_at
shadow_source = compilation_of-compiles no_options 3 _ _ refl

abbrev pub iterations_tree : Tree
iterations_tree = alone_at_start (scope (codes "each") (path_to (codes "a")) no_binding
    (inside
    (scope (codes "each") this no_binding (inside (show this ∷ []) (at 1 26 ∷ [])) no_body ∷ raw_string (codes ";") ∷ [])
    (at 1 12 ∷ at 1 43 ∷ [])) no_body)

pub nested_each_source : Compiles (codes "{{#each a}}{{#each this}}{{this}}{{/each}};{{/each}}") no_options (compiled iterations_tree)
unfolding beginning_of closing_of chars expressions.name_step expressions.after_step expressions.expression_step texts.after_byte path.plain_at path.part_at path.links_at path.links_of path.start_without_at_sign path.start_at path.shape_at path.shape_of path.reference_from path.path_at expressions.key_and_equals_at expressions.parameter_step expressions.item_step literal.literal_at literal.after_scalar literal.undoubled_at literal.unbracketed_at literal.value_token literal.token_at after_bar after_beginning
nested_each_source = compilation_of-compiles no_options 5 _ _ refl

abbrev pub last_tree : Tree
last_tree = alone_at_start (scope (codes "each") (path_to (codes "a")) no_binding
    (inside
    (show (variable_of 0 (codes "first") (codes "@first"))
    ∷ show (variable_of 0 (codes "last") (codes "@last")) ∷ [])
    (at 1 12 ∷ at 1 22 ∷ [])) no_body)

pub last_source : Compiles (codes "{{#each a}}{{@first}}{{@last}}{{/each}}") no_options (compiled last_tree)
unfolding beginning_of closing_of chars expressions.name_step expressions.after_step expressions.expression_step texts.after_byte path.plain_at path.part_at path.links_at path.links_of path.start_without_at_sign path.start_at path.shape_at path.shape_of path.reference_from path.path_at expressions.key_and_equals_at expressions.parameter_step expressions.item_step literal.literal_at literal.after_scalar literal.undoubled_at literal.unbracketed_at literal.value_token literal.token_at after_bar after_beginning path.at_sign_start path.after_up path.ups_at
last_source = compilation_of-compiles no_options 4 _ _ refl

abbrev pub keys_tree : Tree
keys_tree = alone_at_start (scope (codes "each") this no_binding
    (inside
    (show (variable_of 0 (codes "key") (codes "@key"))
    ∷ show (variable_of 0 (codes "index") (codes "@index")) ∷ [])
    (at 1 15 ∷ at 1 23 ∷ [])) no_body)

pub keys_source : Compiles (codes "{{#each this}}{{@key}}{{@index}}{{/each}}") no_options (compiled keys_tree)
unfolding beginning_of closing_of chars expressions.name_step expressions.after_step expressions.expression_step texts.after_byte path.plain_at path.part_at path.links_at path.links_of path.start_without_at_sign path.start_at path.shape_at path.shape_of path.reference_from path.path_at expressions.key_and_equals_at expressions.parameter_step expressions.item_step literal.literal_at literal.after_scalar literal.undoubled_at literal.unbracketed_at literal.value_token literal.token_at after_bar after_beginning path.at_sign_start path.after_up path.ups_at
keys_source = compilation_of-compiles no_options 4 _ _ refl

abbrev pub indices_tree : Tree
indices_tree = alone_at_start (scope (codes "each") (path_to (codes "a")) no_binding
    (inside
    (scope (codes "each") this no_binding
    (inside
    (show (variable_of 0 (codes "index") (codes "@index"))
    ∷ show (variable_of 1 (codes "index") (codes "@../index")) ∷ [])
    (at 1 26 ∷ at 1 36 ∷ [])) no_body ∷ [])
    (at 1 12 ∷ [])) no_body)

pub indices_source : Compiles (codes "{{#each a}}{{#each this}}{{@index}}{{@../index}}{{/each}}{{/each}}") no_options
    (compiled indices_tree)
unfolding beginning_of closing_of chars expressions.name_step expressions.after_step expressions.expression_step texts.after_byte path.plain_at path.part_at path.links_at path.links_of path.start_without_at_sign path.start_at path.shape_at path.shape_of path.reference_from path.path_at expressions.key_and_equals_at expressions.parameter_step expressions.item_step literal.literal_at literal.after_scalar literal.undoubled_at literal.unbracketed_at literal.value_token literal.token_at after_bar after_beginning path.link_at path.after_up path.ups_at path.at_sign_start
indices_source = compilation_of-compiles no_options 6 _ _ refl

abbrev pub no_members_tree : Tree
no_members_tree = alone_at_start (scope (codes "each") (path_to (codes "a")) no_binding
    (inside (raw_string (codes "x") ∷ []) (at 1 12 ∷ [])) no_body)

pub no_members_source : Compiles (codes "{{#each a}}x{{/each}}") no_options (compiled no_members_tree)
unfolding beginning_of closing_of chars expressions.name_step expressions.after_step expressions.expression_step texts.after_byte path.plain_at path.part_at path.links_at path.links_of path.start_without_at_sign path.start_at path.shape_at path.shape_of path.reference_from path.path_at expressions.key_and_equals_at expressions.parameter_step expressions.item_step literal.literal_at literal.after_scalar literal.undoubled_at literal.unbracketed_at literal.value_token literal.token_at after_bar after_beginning
no_members_source = compilation_of-compiles no_options 2 _ _ refl

abbrev pub each_inverse_tree : Tree
each_inverse_tree = alone_at_start (scope (codes "each") (path_to (codes "a")) no_binding
    (inside (raw_string (codes "x") ∷ []) (at 1 12 ∷ [])) (body (inside (raw_string (codes "y") ∷ []) (at 1 21 ∷ []))))

pub each_inverse_source : Compiles (codes "{{#each a}}x{{else}}y{{/each}}") no_options (compiled each_inverse_tree)
unfolding beginning_of closing_of chars expressions.name_step expressions.after_step expressions.expression_step texts.after_byte path.plain_at path.part_at path.links_at path.links_of path.start_without_at_sign path.start_at path.shape_at path.shape_of path.reference_from path.path_at expressions.key_and_equals_at expressions.parameter_step expressions.item_step literal.literal_at literal.after_scalar literal.undoubled_at literal.unbracketed_at literal.value_token literal.token_at after_bar after_beginning
each_inverse_source = compilation_of-compiles no_options 3 _ _ refl

abbrev pub with_inverse_tree : Tree
with_inverse_tree = alone_at_start (scope (codes "with") (path_to (codes "a")) no_binding
    (inside (raw_string (codes "x") ∷ []) (at 1 12 ∷ [])) (body (inside (raw_string (codes "y") ∷ []) (at 1 21 ∷ []))))

pub with_inverse_source : Compiles (codes "{{#with a}}x{{else}}y{{/with}}") no_options (compiled with_inverse_tree)
unfolding beginning_of closing_of chars expressions.name_step expressions.after_step expressions.expression_step texts.after_byte path.plain_at path.part_at path.links_at path.links_of path.start_without_at_sign path.start_at path.shape_at path.shape_of path.reference_from path.path_at expressions.key_and_equals_at expressions.parameter_step expressions.item_step literal.literal_at literal.after_scalar literal.undoubled_at literal.unbracketed_at literal.value_token literal.token_at after_bar after_beginning
with_inverse_source = compilation_of-compiles no_options 3 _ _ refl

abbrev pub too_far_up_tree : Tree
too_far_up_tree = alone_at_start (scope (codes "with") (path_to (codes "a")) no_binding
    (inside (show (along (up ∷ up ∷ named (codes "d") ∷ []) (codes "../../d")) ∷ []) (at 1 12 ∷ [])) no_body)

pub too_far_up_source : Compiles (codes "{{#with a}}{{../../d}}{{/with}}") no_options (compiled too_far_up_tree)
unfolding beginning_of closing_of chars expressions.name_step expressions.after_step expressions.expression_step texts.after_byte path.plain_at path.part_at path.links_at path.links_of path.start_without_at_sign path.start_at path.shape_at path.shape_of path.reference_from path.path_at expressions.key_and_equals_at expressions.parameter_step expressions.item_step literal.literal_at literal.after_scalar literal.undoubled_at literal.unbracketed_at literal.value_token literal.token_at after_bar after_beginning path.link_at path.after_up path.ups_at
too_far_up_source = compilation_of-compiles no_options 3 _ _ refl

abbrev pub bound_up_tree : Tree
bound_up_tree = alone_at_start (scope (codes "with") (path_to (codes "a")) (single (name (codes "z")))
    (inside (show (along (up ∷ named (codes "z") ∷ named (codes "x") ∷ []) (codes "../z.x")) ∷ [])
    (at 1 19 ∷ [])) no_body)

pub bound_up_source : Compiles (codes "{{#with a as |z|}}{{../z.x}}{{/with}}") no_options (compiled bound_up_tree)
unfolding beginning_of closing_of chars expressions.name_step expressions.after_step expressions.expression_step texts.after_byte path.plain_at path.part_at path.links_at path.links_of path.start_without_at_sign path.start_at path.shape_at path.shape_of path.reference_from path.path_at expressions.key_and_equals_at expressions.parameter_step expressions.item_step literal.literal_at literal.after_scalar literal.undoubled_at literal.unbracketed_at literal.value_token literal.token_at after_bar after_beginning path.link_at path.after_up path.ups_at symbols_at
bound_up_source = compilation_of-compiles no_options 3 _ _ refl

abbrev pub up_tree : Tree
up_tree = alone_at_start (scope (codes "with") (path_to (codes "a")) no_binding
    (inside
    (scope (codes "each") (path_to (codes "b")) no_binding
    (inside (show (along (up ∷ named (codes "x") ∷ []) (codes "../x")) ∷ []) (at 1 23 ∷ [])) no_body ∷ [])
    (at 1 12 ∷ [])) no_body)

pub up_source : Compiles (codes "{{#with a}}{{#each b}}{{../x}}{{/each}}{{/with}}") no_options (compiled up_tree)
unfolding beginning_of closing_of chars expressions.name_step expressions.after_step expressions.expression_step texts.after_byte path.plain_at path.part_at path.links_at path.links_of path.start_without_at_sign path.start_at path.shape_at path.shape_of path.reference_from path.path_at expressions.key_and_equals_at expressions.parameter_step expressions.item_step literal.literal_at literal.after_scalar literal.undoubled_at literal.unbracketed_at literal.value_token literal.token_at after_bar after_beginning path.link_at path.after_up path.ups_at
up_source = compilation_of-compiles no_options 5 _ _ refl

abbrev pub recursive_tree : Tree
recursive_tree = alone_at_start (scope (codes "with") (path_to (codes "a")) no_binding
    (inside
    (scope (codes "with") (path_to (codes "b")) no_binding
    (inside (show (path_to (codes "x")) ∷ []) (at 1 23 ∷ [])) no_body ∷ [])
    (at 1 12 ∷ [])) no_body)

pub recursive_source : Compiles (codes "{{#with a}}{{#with b}}{{x}}{{/with}}{{/with}}") no_options
    (compiled recursive_tree)
unfolding beginning_of closing_of chars expressions.name_step expressions.after_step expressions.expression_step texts.after_byte path.plain_at path.part_at path.links_at path.links_of path.start_without_at_sign path.start_at path.shape_at path.shape_of path.reference_from path.path_at expressions.key_and_equals_at expressions.parameter_step expressions.item_step literal.literal_at literal.after_scalar literal.undoubled_at literal.unbracketed_at literal.value_token literal.token_at after_bar after_beginning
recursive_source = compilation_of-compiles no_options 5 _ _ refl

abbrev pub whole_tree : Tree
whole_tree = alone_at_start (scope (codes "with") this (single (name (codes "t")))
    (inside (show (path_to (codes "t")) ∷ []) (at 1 22 ∷ [])) no_body)

pub whole_source : Compiles (codes "{{#with this as |t|}}{{t}}{{/with}}") no_options (compiled whole_tree)
unfolding beginning_of closing_of chars expressions.name_step expressions.after_step expressions.expression_step texts.after_byte path.plain_at path.part_at path.links_at path.links_of path.start_without_at_sign path.start_at path.shape_at path.shape_of path.reference_from path.path_at expressions.key_and_equals_at expressions.parameter_step expressions.item_step literal.literal_at literal.after_scalar literal.undoubled_at literal.unbracketed_at literal.value_token literal.token_at after_bar after_beginning symbols_at
whole_source = compilation_of-compiles no_options 3 _ _ refl

abbrev pub lookup_tree : Tree
lookup_tree = alone_at_start (scope (codes "each") (path_to (codes "v1")) no_binding
    (inside
    (lookup (along (up ∷ named (codes "v2") ∷ []) (codes "../v2"))
    (variable_of 0 (codes "index") (codes "@index")) ∷ [])
    (at 1 13 ∷ [])) no_body)

pub lookup_source : Compiles (codes "{{#each v1}}{{lookup ../v2 @index}}{{/each}}") no_options (compiled lookup_tree)
unfolding beginning_of closing_of chars expressions.name_step expressions.after_step expressions.expression_step texts.after_byte path.plain_at path.part_at path.links_at path.links_of path.start_without_at_sign path.start_at path.shape_at path.shape_of path.reference_from path.path_at expressions.key_and_equals_at expressions.parameter_step expressions.item_step literal.literal_at literal.after_scalar literal.undoubled_at literal.unbracketed_at literal.value_token literal.token_at after_bar after_beginning path.link_at path.after_up path.ups_at path.at_sign_start
lookup_source = compilation_of-compiles no_options 3 _ _ refl
