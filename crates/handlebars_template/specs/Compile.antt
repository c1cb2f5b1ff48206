-- The outcome of compiling a source: its tree, or the first error.
use Rattle.std.specs.Prelude.{◌≡◌, ℕ, Bool, true, false, not, ◌&&◌, ◌||◌, ◌==◌, length, if◌then◌else◌, List, [], ◌∷◌, ◌++◌, map, Option, None, Some, unwrap_or, codes}
use Rattle.handlebars_base.specs.Bytes.{Text}
use Rattle.handlebars_base.specs.Reasons.{TemplateReason, TemplateRefusal, invalid_syntax, mismatching_closed_helper, mismatching_closed_decorator}
use Rattle.handlebars_expressions.specs.Binding.{BoundNames, unbound, bound, both_bound}
use Rattle.handlebars_expressions.specs.Expression.{Expression}
use Rattle.handlebars_lexer.specs.Text.{IsText, braces}
use Rattle.handlebars_lexer.specs.Tag.{Tag, escaped_tag, html_tag, block_tag, inverse_tag, chain_tag, close_tag, raw_tag, raw_close_tag, decorator_tag, decorator_block_tag, partial_tag, partial_block_tag, comment_tag, BlockExpression, written_name, Tildes, IsTag}
use Rattle.handlebars_lexer.specs.Trim.{WhitespaceControl, braces_after, trimmed, has_element}
use Rattle.handlebars_lexer.specs.Options.{Options}
use Rattle.handlebars_template.specs.Position.{Position, position}
use Rattle.handlebars_template.specs.Tree.{Tree, tree, elements_of, raw_string, html_expression, escaped_expression, decorator_expression, partial_expression, comment, Decorator, decorator, no_body, no_arguments, Param, as_name, name, no_binding, single, both}
use Rattle.handlebars_template.specs.Tree as tree
use Rattle.handlebars_template.specs.Calls.{param_of, call_of, arguments_in, expression_literals, literals_in, first_rejected, invalid}
use Rattle.handlebars_template.specs.Nest.{BlockKind, helper_opening, raw_opening, decorator_opening, partial_opening, Opening, SourcePiece, leaf, opens, inverts, chains, closes, NestingError, unexpected, too_deep, not_closed, mismatched, no_value, PositionedElement, decorator_with, syntax_alone, names_and_literals, Nests, OpenBlock, Opens, Rejects, LeavesOpen}
use Rattle.handlebars_template.specs.Tokens.{Token, text_token, tag_token, may_follow, Reads, AreTokens}

-- ---- the pieces that tokens stand for

abbrev pub block_binding : BoundNames → tree.Binding
block_binding unbound = no_binding
block_binding (bound x) = single (name x)
block_binding (both_bound x y) = both (name x) (name y)

-- Indentation is written before the output of a tag that is alone on its line and has no tilde at its start.
abbrev pub is_indented : WhitespaceControl → Bool
is_indented e = e.standalone && not e.left

-- The content of the opening tag of a block, or of a decorator. The name closes the block, as it is written.
abbrev pub opening_of : BlockKind → WhitespaceControl → BlockExpression → Opening
opening_of kind e expression = record {
  kind = kind;
  name = param_of expression.name;
  closing = written_name expression.name;
  arguments = arguments_in no_arguments expression.terms;
  binding = block_binding expression.binding;
  indent = is_indented e;
}

-- A partial block is closed by its name as it is written, brackets and quotes included. If the name is a call, the block is
-- closed by a close without a name.
abbrev pub closing_name : Param → Text
closing_name p = unwrap_or (as_name p) (codes "(subexpression)")

-- the content of the opening tag of a partial block, which binds no names
abbrev pub partial_opening_of : WhitespaceControl → Expression → Opening
partial_opening_of e expression = record {
  kind = partial_opening;
  name = param_of expression.name;
  closing = closing_name (param_of expression.name);
  arguments = arguments_in no_arguments expression.terms;
  binding = no_binding;
  indent = is_indented e;
}

-- The indentation of a partial without a block is the blanks before it, if there are any, the tag has no tilde at its start,
-- and the options don't prevent it.
abbrev pub partial_indentation : Options → WhitespaceControl → Option Text
partial_indentation options e =
    if options.prevent_indent || (e.left || (length e.blanks == 0)) then None else Some e.blanks

-- a partial without a block
abbrev pub partial_of : Options → WhitespaceControl → Expression → Decorator
partial_of options e expression =
    decorator (param_of expression.name) (arguments_in no_arguments expression.terms) no_body
    (record { indent = partial_indentation options e; indent_before_write = is_indented e })

abbrev pub tag_piece : Options → Position → WhitespaceControl → Tag → SourcePiece
tag_piece options p e (escaped_tag expression) =
    leaf p (escaped_expression (call_of expression.name expression.terms)) expression.depth (first_rejected (expression_literals expression))
tag_piece options p e (html_tag expression) =
    leaf p (html_expression (call_of expression.name expression.terms)) expression.depth (first_rejected (expression_literals expression))
tag_piece options p e (block_tag expression) =
    opens p (opening_of helper_opening e expression) expression.depth (first_rejected (literals_in expression.terms))
tag_piece options p e inverse_tag = inverts p
tag_piece options p e (chain_tag expression) =
    chains p (opening_of helper_opening e expression) expression.depth (first_rejected (literals_in expression.terms))
tag_piece options p e (close_tag n) = closes p false n
tag_piece options p e (raw_tag expression) =
    opens p (opening_of raw_opening e expression) expression.depth (first_rejected (literals_in expression.terms))
tag_piece options p e (raw_close_tag n) = closes p true n
tag_piece options p e (decorator_tag expression) =
    leaf p (decorator_expression (decorator_with (opening_of decorator_opening e expression) no_body)) expression.depth
    (first_rejected (literals_in expression.terms))
tag_piece options p e (decorator_block_tag expression) =
    opens p (opening_of decorator_opening e expression) expression.depth (first_rejected (literals_in expression.terms))
tag_piece options p e (partial_tag expression) =
    leaf p (partial_expression (partial_of options e expression)) expression.depth (first_rejected (expression_literals expression))
tag_piece options p e (partial_block_tag expression) =
    opens p (partial_opening_of e expression) expression.depth (first_rejected (expression_literals expression))
tag_piece options p e (comment_tag t) = leaf p (comment t) 0 None

-- a text between two tags, if it has an element
abbrev pub text_pieces : Options → Position → WhitespaceControl → Text → Text → WhitespaceControl → List SourcePiece
text_pieces options p e token unescaped n =
    if has_element e token then leaf p (raw_string (trimmed options e unescaped n)) 0 None ∷ [] else []

abbrev pub pieces_in : Options → List Token → List SourcePiece
pieces_in options [] = []
pieces_in options (text_token p e token unescaped n ∷ ps) = text_pieces options p e token unescaped n ++ pieces_in options ps
pieces_in options (tag_token p token t e ∷ ps) = tag_piece options p e t ∷ pieces_in options ps

abbrev pub tree_of : Options → List PositionedElement → Tree
tree_of options es = tree options.name (elements_of (map (λ e. e.element) es)) (map (λ e. e.position) es)

-- ---- errors

-- a syntax error with its message, in the template of this name, or `Unnamed`
abbrev pub syntax_refusal : Text → Options → Position → TemplateRefusal
syntax_refusal message options p = record {
  reason = invalid_syntax message;
  name = Some (unwrap_or options.name (codes "Unnamed"));
  position = Some (p.line, p.column);
}

abbrev pub unreadable_tag : Options → Position → TemplateRefusal
unreadable_tag options p = syntax_refusal (codes "unreadable tag") options p

-- the reason for a close by another name, from the name that would close the block and the name of the close
abbrev pub mismatch : BlockKind → Text → Text → TemplateReason
mismatch helper_opening n m = mismatching_closed_helper n m
mismatch raw_opening n m = mismatching_closed_helper n m
mismatch decorator_opening n m = mismatching_closed_decorator n m
mismatch partial_opening n m = mismatching_closed_decorator n m

abbrev pub refusal_for : Options → NestingError → TemplateRefusal
refusal_for options (unexpected p) = syntax_refusal (codes "unexpected tag") options p
refusal_for options (too_deep p) = syntax_refusal (codes "nesting too deep") options p
refusal_for options (not_closed p) = syntax_refusal (codes "block not closed") options p
refusal_for options (mismatched k n m p) = record (syntax_refusal [] options p) { reason = mismatch k n m }
refusal_for options (no_value raw) = invalid raw

-- The rest of the source begins with no tag that may follow this whitespace control.
abbrev pub NoTagAfter : Options → WhitespaceControl → Text → Type 0
NoTagAfter options e left = (token rest : Text) (t : Tag) (tildes : Tildes)
    → left ≡ token ++ rest → IsTag options.sections token rest t tildes → may_follow e t ≡ true → ⊥

-- At this position, after texts and tags that nest so far, and one more text, are braces with which no tag begins that is
-- allowed there.
pub record IsUnreadable (source : Text) (options : Options) (at : Position) : Type 0 where
  pub before : Text
  pub control : WhitespaceControl
  pub tokens : List Token
  pub begins : Reads source options before control tokens
  pub depth : ℕ
  pub open_blocks : List OpenBlock
  pub nests : Opens syntax_alone depth (pieces_in options tokens) open_blocks
  pub text : Text
  pub unescaped : Text
  pub left : Text
  pub whole : source ≡ before ++ (text ++ left)
  pub is_text : IsText (braces_after control) left text unescaped
  pub marks : braces (braces_after control) left ≡ true
  pub none : NoTagAfter options control left
  pub there : at ≡ position (before ++ text)

-- ---- outcomes

pub data Compilation : Type 0 where
  compiled : Tree → Compilation
  rejected : TemplateRefusal → Compilation

-- Syntax errors come first, tag by tag along the source. If the whole source nests, the error is the first name that closes
-- the block of another, or the first literal without a value, whichever comes first.
pub data Compiles (source : Text) (options : Options) : Compilation → Type 0 where
  whole : {ps : List Token} {es : List PositionedElement} → AreTokens source options ps → Nests names_and_literals 0 (pieces_in options ps) es
      → Compiles source options (compiled (tree_of options es))
  no_tag : {at : Position} → IsUnreadable source options at → Compiles source options (rejected (unreadable_tag options at))
  misplaced : {before : Text} {control : WhitespaceControl} {ps : List Token} {f : NestingError}
      → Reads source options before control ps → Rejects syntax_alone (pieces_in options ps) f
      → Compiles source options (rejected (refusal_for options f))
  left_open : {ps : List Token} {f : NestingError} → AreTokens source options ps → LeavesOpen syntax_alone (pieces_in options ps) f
      → Compiles source options (rejected (refusal_for options f))
  late : {ps : List Token} {es : List PositionedElement} {f : NestingError} → AreTokens source options ps → Nests syntax_alone 0 (pieces_in options ps) es
      → Rejects names_and_literals (pieces_in options ps) f
      → Compiles source options (rejected (refusal_for options f))

-- A source has at most one outcome.
abbrev pub OneCompilation : Type 0
OneCompilation =
    (source : Text) (options : Options) (a b : Compilation)
    → Compiles source options a → Compiles source options b → a ≡ b
