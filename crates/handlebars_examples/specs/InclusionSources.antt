-- Worked sources with partials, each with its tree or its error.
use Rattle.std.specs.Prelude.{Bool, true, false, List, [], ◌∷◌, Option, None, Some, codes}
use Rattle.handlebars_base.specs.Bytes.{Text}
use Rattle.handlebars_lexer.specs.Options.{Options, no_options}
use Rattle.handlebars_template.specs.Position.{Position}
use Rattle.handlebars_template.specs.Tree.{tree, elements_of, Element, raw_string, partial_expression, partial_block, decorator, no_body, name, subexpression, args, no_arguments, no_params, param, no_hash}
use Rattle.handlebars_template.specs.Nest.{partial_opening, mismatched, body_with}
use Rattle.handlebars_template.specs.Compile.{Compiles, Compilation, compiled, rejected, refusal_for}
use Rattle.handlebars_examples.specs.SourceExamples.{at, path_to, named_call, text_element, IsRejected}

-- these elements, at these positions
abbrev pub elements_at : List Element → List Position → Compilation
elements_at es positions = compiled (tree None (elements_of es) positions)

-- a partial without a block, with this indentation and this mark
abbrev pub partial_with_indent : Text → Option Text → Bool → Element
partial_with_indent n indent mark =
    partial_expression (decorator (name n) no_arguments no_body (record { indent = indent; indent_before_write = mark }))

-- Alone on its line, a partial has the blanks before it as its indentation, and they are removed from the text.
abbrev pub IndentedSourceExample : Type 0
IndentedSourceExample =
    Compiles (codes "a\n  {{> p/q}}\nb") no_options
    (elements_at (raw_string (codes "a\n") ∷ partial_with_indent (codes "p/q") (Some (codes "  ")) true ∷ raw_string (codes "b") ∷ [])
    (at 1 1 ∷ at 2 3 ∷ at 2 12 ∷ []))

abbrev pub without_indentation : Options
without_indentation = record no_options { prevent_indent = true }

-- If indentation is prevented, the blanks remain text.
abbrev pub PreventedExample : Type 0
PreventedExample =
    Compiles (codes "a\n  {{> p}}\nb") without_indentation
    (elements_at (raw_string (codes "a\n  ") ∷ partial_with_indent (codes "p") None true ∷ raw_string (codes "b") ∷ [])
    (at 1 1 ∷ at 2 3 ∷ at 2 10 ∷ []))

-- Within a line it has an indentation, and the blanks remain text.
abbrev pub WithinExample : Type 0
WithinExample =
    Compiles (codes "a  {{> p}} b") no_options
    (elements_at (raw_string (codes "a  ") ∷ partial_with_indent (codes "p") (Some (codes "  ")) false ∷ raw_string (codes " b") ∷ [])
    (at 1 1 ∷ at 1 4 ∷ at 1 11 ∷ []))

-- Brackets are part of the name, and of the name of the close.
abbrev pub BracketsExample : Type 0
BracketsExample =
    Compiles (codes "{{#> [p q] b}}x{{/[p q]}}") no_options
    (elements_at
    (partial_block
    (decorator (name (codes "[p q]")) (args (param (path_to (codes "b")) no_params) no_hash)
    (body_with (text_element 1 15 (codes "x") ∷ [])) (record { indent = None; indent_before_write = false }))
    ∷ []) (at 1 1 ∷ []))

-- A block that is named by a call is closed by a close without a name.
abbrev pub CalledExample : Type 0
CalledExample =
    Compiles (codes "{{#> (a b)}}x{{/}}") no_options
    (elements_at
    (partial_block
    (decorator (subexpression (named_call (codes "a") (path_to (codes "b")))) no_arguments
    (body_with (text_element 1 13 (codes "x") ∷ [])) (record { indent = None; indent_before_write = false }))
    ∷ []) (at 1 1 ∷ []))

abbrev pub PartialInverseExample : Type 0
PartialInverseExample = IsRejected (codes "{{#> p}}x{{else}}y{{/p}}") (codes "unexpected tag") (at 1 10)

abbrev pub PartialNameExample : Type 0
PartialNameExample =
    Compiles (codes "{{#> p}}x{{/q}}") no_options
    (rejected (refusal_for no_options (mismatched partial_opening (codes "p") (codes "q") (at 1 10))))

abbrev pub CallNameExample : Type 0
CallNameExample =
    Compiles (codes "{{#> (p)}}x{{/p}}") no_options
    (rejected (refusal_for no_options (mismatched partial_opening (codes "(subexpression)") (codes "p") (at 1 12))))
