-- Worked sources, each with its tree or its error.
use Rattle.std.specs.Prelude.{ℕ, Bool, true, false, List, [], ◌∷◌, ◌++◌, None, codes, replicate}
use Rattle.serde_json.specs.Data.{boolean}
use Rattle.handlebars_base.specs.Bytes.{Text, backslash, newline}
use Rattle.handlebars_base.specs.Path.{Segment, named, up, relative}
use Rattle.handlebars_expressions.specs.Parameter.{left_parenthesis, right_parenthesis}
use Rattle.handlebars_template.specs.Position.{Position}
use Rattle.handlebars_template.specs.Tree.{Tree, tree, empty_tree, Element, no_elements, element, raw_string, html_expression, escaped_expression, decorator_expression, decorator_block, Decorator, decorator, Body, Param, name, path, literal, subexpression, args, no_arguments, no_params, param, no_hash, hash_pair, no_binding, no_body}
use Rattle.handlebars_template.specs.Calls.{plain_call, invalid}
use Rattle.handlebars_template.specs.Nest.{helper_opening, raw_opening, decorator_opening, Opening, mismatched, PositionedElement, body_with, block_of}
use Rattle.handlebars_lexer.specs.Options.{no_options}
use Rattle.handlebars_template.specs.Compile.{Compiles, compiled, rejected, syntax_refusal, unreadable_tag, refusal_for}

abbrev pub at : ℕ → ℕ → Position
at line column = record { line = line; column = column }

-- a text at the start of the source, and an element after it
abbrev pub text_and_element : Text → Element → Position → Tree
text_and_element text e there =
    tree None (element (raw_string text) (element e no_elements)) (at 1 1 ∷ there ∷ [])

-- the value to which these segments lead, as written
abbrev pub path_expression : List Segment → Text → Element
path_expression segments written = escaped_expression (plain_call (path (relative segments written)) no_arguments)

-- The empty source has no elements.
abbrev pub EmptySourceExample : Type 0
EmptySourceExample = Compiles [] no_options (compiled empty_tree)

abbrev pub ValueSourceExample : Type 0
ValueSourceExample =
    Compiles (codes "Hello {{name}}") no_options
    (compiled (text_and_element (codes "Hello ") (path_expression (named (codes "name") ∷ []) (codes "name")) (at 1 7)))

-- one backslash before `{{a}} `, and two before `{{a}}`
abbrev pub escaped_source : Text
escaped_source = backslash ∷ (codes "{{a}} " ++ (backslash ∷ backslash ∷ codes "{{a}}"))

-- The first `{{a}}` is text. One backslash remains before the second, which is a value.
abbrev pub EscapedSourceExample : Type 0
EscapedSourceExample =
    Compiles escaped_source no_options
    (compiled
    (text_and_element (codes "{{a}} " ++ (backslash ∷ [])) (path_expression (named (codes "a") ∷ []) (codes "a")) (at 1 10)))

abbrev pub MemberExample : Type 0
MemberExample =
    Compiles (codes "x{{a.x}}") no_options
    (compiled
    (text_and_element (codes "x") (path_expression (named (codes "a") ∷ named (codes "x") ∷ []) (codes "a.x")) (at 1 2)))

-- A tag that isn't closed is rejected at its start.
abbrev pub UnclosedSourceExample : Type 0
UnclosedSourceExample = Compiles (codes "ab{{name") no_options (rejected (unreadable_tag no_options (at 1 3)))

-- A newline begins a line. A character of two bytes, here U+00E9, is one column.
abbrev pub PositionExample : Type 0
PositionExample = Compiles (newline ∷ 195 ∷ 169 ∷ codes "{{a") no_options (rejected (unreadable_tag no_options (at 2 2)))

-- ---- expressions

-- an element at the start of the source, and nothing else
abbrev pub alone_at_start : Element → Tree
alone_at_start e = tree None (element e no_elements) (at 1 1 ∷ [])

abbrev pub path_to : Text → Param
path_to n = path (relative (named n ∷ []) n)

-- `{{{x}}}` and `{{&x}}` are HTML expressions.
abbrev pub html_x : Tree
html_x = alone_at_start (html_expression (plain_call (path_to (codes "x")) no_arguments))

abbrev pub HtmlExample : Type 0
HtmlExample = Compiles (codes "{{{x}}}") no_options (compiled html_x)

abbrev pub AmpersandExample : Type 0
AmpersandExample = Compiles (codes "{{&x}}") no_options (compiled html_x)

-- a call with a parameter and a hash argument
abbrev pub CallSourceExample : Type 0
CallSourceExample =
    Compiles (codes "{{a b c=d}}") no_options
    (compiled
    (alone_at_start
    (escaped_expression
    (plain_call (name (codes "a"))
    (args (param (path_to (codes "b")) no_params) (hash_pair (codes "c") (path_to (codes "d")) no_hash))))))

-- a call of this name with this parameter
abbrev pub named_call : Text → Param → Element
named_call n p = escaped_expression (plain_call (name n) (args (param p no_params) no_hash))

-- calls in parentheses
abbrev pub NestedExample : Type 0
NestedExample =
    Compiles (codes "{{a (b (c d))}}") no_options
    (compiled
    (alone_at_start
    (named_call (codes "a")
    (subexpression (named_call (codes "b") (subexpression (named_call (codes "c") (path_to (codes "d")))))))))

-- a value in the block around
abbrev pub UpSourceExample : Type 0
UpSourceExample =
    Compiles (codes "{{../a}}") no_options
    (compiled (alone_at_start (path_expression (up ∷ named (codes "a") ∷ []) (codes "../a"))))

-- ---- blocks

-- a text with its position
abbrev pub text_element : ℕ → ℕ → Text → PositionedElement
text_element line column t = record { position = at line column; element = raw_string t }

-- the content of `#if` with a parameter, alone on its line or not
abbrev pub if_of : Bool → Param → Opening
if_of indent p = record {
  kind = helper_opening;
  name = name (codes "if");
  closing = codes "if";
  arguments = args (param p no_params) no_hash;
  binding = no_binding;
  indent = indent;
}

abbrev pub if_a : Bool → Opening
if_a indent = if_of indent (path_to (codes "a"))

-- A chained inverse is the inverse of what comes before it, and is nested there.
abbrev pub chain_tree : Tree
chain_tree =
    alone_at_start
    (block_of (if_a false) (text_element 1 10 (codes "1") ∷ [])
    (record { opening = if_of false (path_to (codes "b")); elements = text_element 1 24 (codes "2") ∷ [] } ∷ [])
    (body_with (text_element 1 33 (codes "0") ∷ [])))

abbrev pub ChainSourceExample : Type 0
ChainSourceExample = Compiles (codes "{{#if a}}1{{else if b}}2{{else}}0{{/if}}") no_options (compiled chain_tree)

-- a block at the start of the source, and a text after it
abbrev pub block_and_text : Element → Text → Position → Tree
block_and_text block text there = tree None (element block (element (raw_string text) no_elements)) (at 1 1 ∷ there ∷ [])

-- The lines of standalone tags are removed, with their line ends. The position of the text after them is unchanged.
abbrev pub LinesExample : Type 0
LinesExample =
    Compiles (codes "{{#if a}}\r\nyes\r\n{{/if}}\r\n") no_options
    (compiled
    (block_and_text (block_of (if_a true) (text_element 1 10 (codes "yes\r\n") ∷ []) [] no_body) [] (at 3 8)))

-- A tilde removes all white space on its side. A text of white space alone after it has no element.
abbrev pub TildeExample : Type 0
TildeExample =
    Compiles (codes "{{#if true~}}\n{{a}}\n{{/if}}") no_options
    (compiled
    (alone_at_start
    (block_of (if_of true (literal (boolean true)))
    (record { position = at 2 1; element = path_expression (named (codes "a") ∷ []) (codes "a") }
    ∷ text_element 2 6 (codes "\n") ∷ []) [] no_body)))

abbrev pub InverseExample : Type 0
InverseExample =
    Compiles (codes "{{#if a}}\nx\n{{^}}\ny\n{{/if}}\nz") no_options
    (compiled
    (block_and_text
    (block_of (if_a true) (text_element 1 10 (codes "x\n") ∷ []) [] (body_with (text_element 3 6 (codes "y\n") ∷ [])))
    (codes "z") (at 5 8)))

-- In a raw block only its end is a tag.
abbrev pub raw_block : Element
raw_block =
    block_of
    (record {
      kind = raw_opening;
      name = name (codes "raw");
      closing = codes "raw";
      arguments = args no_params no_hash;
      binding = no_binding;
      indent = false;
    })
    (text_element 1 13 (codes "{{content}}") ∷ []) [] no_body

abbrev pub RawSourceExample : Type 0
RawSourceExample =
    Compiles (codes "a{{{{raw}}}}{{content}}{{{{/raw}}}}") no_options
    (compiled (text_and_element (codes "a") raw_block (at 1 2)))

-- ---- decorators

-- the decorator `a` with a parameter `b` and this body
abbrev pub decorator_a : Bool → Body → Decorator
decorator_a indent b =
    decorator (name (codes "a")) (args (param (path_to (codes "b")) no_params) no_hash) b
    (record { indent = None; indent_before_write = indent })

-- The tag is alone on its line, so its mark is set, and the line end is removed with it.
abbrev pub DecoratorExample : Type 0
DecoratorExample =
    Compiles (codes "{{*a b}}\ny") no_options
    (compiled (block_and_text (decorator_expression (decorator_a true no_body)) (codes "y") (at 1 9)))

-- A close without a name ends the block of a decorator.
abbrev pub DecoratorBlockExample : Type 0
DecoratorBlockExample =
    Compiles (codes "{{#*a b}}x{{/}}") no_options
    (compiled (alone_at_start (decorator_block (decorator_a false (body_with (text_element 1 10 (codes "x") ∷ []))))))

-- ---- errors

-- the source is rejected with this message, at this position
abbrev pub IsRejected : Text → Text → Position → Type 0
IsRejected source message there = Compiles source no_options (rejected (syntax_refusal message no_options there))

-- `else` outside a block, and a close
abbrev pub ElseExample : Type 0
ElseExample = IsRejected (codes "{{else}}") (codes "unexpected tag") (at 1 1)

abbrev pub CloseExample : Type 0
CloseExample = IsRejected (codes "{{/if}}") (codes "unexpected tag") (at 1 1)

-- A block that isn't closed is rejected at its start.
abbrev pub OpenExample : Type 0
OpenExample = IsRejected (codes "{{#if a}}x") (codes "block not closed") (at 1 1)

-- More than 200 parentheses that are open at once are rejected at the start of their tag.
abbrev pub deep_source : Text
deep_source =
    codes "{{" ++ (replicate 201 left_parenthesis ++ (codes "a" ++ (replicate 201 right_parenthesis ++ codes "}}")))

abbrev pub DeepExample : Type 0
DeepExample = IsRejected deep_source (codes "nesting too deep") (at 1 1)

-- A close by another name is rejected at its position.
abbrev pub OtherNameExample : Type 0
OtherNameExample =
    Compiles (codes "{{#if a}}x{{/unless}}") no_options
    (rejected (refusal_for no_options (mismatched helper_opening (codes "if") (codes "unless") (at 1 11))))

-- The block of a decorator has no inverse, and a close by another name is rejected.
abbrev pub DecoratorInverseExample : Type 0
DecoratorInverseExample = IsRejected (codes "{{#*a b}}x{{else}}y{{/a}}") (codes "unexpected tag") (at 1 11)

abbrev pub DecoratorNameExample : Type 0
DecoratorNameExample =
    Compiles (codes "{{#*a b}}x{{/b}}") no_options
    (rejected (refusal_for no_options (mismatched decorator_opening (codes "a") (codes "b") (at 1 11))))

-- a literal with no value
abbrev pub NumberExample : Type 0
NumberExample = Compiles (codes "{{len 01}}") no_options (rejected (invalid (codes "01")))
