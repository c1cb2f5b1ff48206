-- What the worked examples of blocks without a helper compile to.
use Rattle.std.proofs.Common.{[], ◌∷◌, None, true, refl, codes}
use Rattle.handlebars_base.specs.Bytes.{Text}
use Rattle.handlebars_expressions.specs.Binding.{after_bar, after_beginning}
use Rattle.handlebars_lexer.specs.Options.{no_options}
use Rattle.handlebars_template.specs.Calls.{plain_call, plain_marks}
use Rattle.handlebars_template.specs.Compile.{Compiles, compiled}
use Rattle.handlebars_template.specs.Tree.{Tree, tree, elements_of, Element, raw_string, escaped_expression, helper_block, call, Args, args, no_arguments, bodies, no_body, body, no_binding, no_params, param, no_hash, name, literal}
use Rattle.handlebars_template.proofs.Outcomes.{compilation_of-compiles}
use Rattle.handlebars_examples.specs.ScopeExamples.{natural}
use Rattle.handlebars_examples.specs.SourceExamples.{at, alone_at_start, path_to}
use Rattle.handlebars_examples.proofs.HelperTrees.{on_expressions, on_parameters, on_literals}

-- a block: its name, its arguments and its body
abbrev block_of : Text → Args → Tree → Element
block_of n xs t =
    helper_block (call (name n) xs no_binding (bodies (body t) no_body) (record plain_marks { block = true }))

-- the value of `x`
abbrev x_value : Element
x_value = escaped_expression (plain_call (path_to (codes "x")) no_arguments)

abbrev pub array_tree : Tree
array_tree = alone_at_start (block_of (codes "a") no_arguments
    (tree None (elements_of (x_value ∷ raw_string (codes ",") ∷ [])) (at 1 7 ∷ at 1 12 ∷ [])))

pub array_source : Compiles (codes "{{#a}}{{x}},{{/a}}") no_options (compiled array_tree)
unfolding on_expressions on_parameters after_bar after_beginning
array_source = compilation_of-compiles no_options 3 _ _ refl

abbrev pub value_tree : Tree
value_tree = alone_at_start (block_of (codes "a") no_arguments (tree None (elements_of (x_value ∷ [])) (at 1 7 ∷ [])))

pub value_source : Compiles (codes "{{#a}}{{x}}{{/a}}") no_options (compiled value_tree)
unfolding on_expressions on_parameters after_bar after_beginning
value_source = compilation_of-compiles no_options 3 _ _ refl

abbrev pub no_value_tree : Tree
no_value_tree =
    alone_at_start (block_of (codes "none") no_arguments (tree None (elements_of (raw_string (codes "x") ∷ [])) (at 1 10 ∷ [])))

pub no_value_source : Compiles (codes "{{#none}}x{{/none}}") no_options (compiled no_value_tree)
unfolding on_expressions on_parameters after_bar after_beginning
no_value_source = compilation_of-compiles no_options 2 _ _ refl

abbrev pub parameter_tree : Tree
parameter_tree = alone_at_start (block_of (codes "a") (args (param (literal (natural 1)) no_params) no_hash)
    (tree None (elements_of (raw_string (codes "x") ∷ [])) (at 1 9 ∷ [])))

pub parameter_source : Compiles (codes "{{#a 1}}x{{/a}}") no_options (compiled parameter_tree)
unfolding on_expressions on_parameters on_literals after_bar after_beginning
parameter_source = compilation_of-compiles no_options 2 _ _ refl
