-- What the program builds from tags, and what it scans a source to. Only the contracts of internal functions cite this.
use Rattle.std.specs.Prelude.{◌≡◌, Bool, true, false, if◌then◌else◌, List, [], ◌∷◌, Option, None, Some, option_map, MatchOption, ⊤}
use Rattle.handlebars_base.specs.Bytes.{Text}
use Rattle.handlebars_base.specs.Path.{IsIdentifier}
use Rattle.handlebars_expressions.specs.Expression.{Expression}
use Rattle.handlebars_lexer.specs.Tag.{BlockExpression}
use Rattle.handlebars_lexer.specs.Trim.{WhitespaceControl, trimmed, has_element}
use Rattle.handlebars_lexer.specs.Options.{Options}
use Rattle.handlebars_lexer.specs.declared.tag.inside.Content.{Content}
use Rattle.handlebars_lexer.specs.declared.tag.inside.Content.TheVariants as content
use Rattle.handlebars_template.specs.Position.{Position}
use Rattle.handlebars_template.specs.Tree.{Element, raw_string, html_expression, escaped_expression, Call}
use Rattle.handlebars_template.specs.TreeView.{position_of}
use Rattle.handlebars_template.specs.Calls.{call_of, first_rejected, literals_in, expression_literals}
use Rattle.handlebars_template.specs.Nest.{BlockKind, SourcePiece, leaf, NestingError, not_closed, PositionedElement}
use Rattle.handlebars_template.specs.Machine.{BlockSoFar}
use Rattle.handlebars_template.specs.NestView.{positioned_view, opening_view, late_nesting_error, nesting_error}
use Rattle.handlebars_template.specs.Compile.{opening_of, tree_of, unreadable_tag, refusal_for, Compilation, compiled, rejected}
use Rattle.handlebars_template.specs.declared.template.tags.BuiltOpening.{BuiltOpening}
use Rattle.handlebars_template.specs.declared.template.nest.Nested.{Nested}
use Rattle.handlebars_template.specs.declared.template.nest.Nested.TheVariants as nested
use Rattle.handlebars_template.specs.declared.template.scan.Scanned.{Scanned}
use Rattle.handlebars_template.specs.declared.template.scan.Scanned.TheVariants as scanned

-- ---- tags

-- a value, escaped or not
abbrev pub value_element : Bool → Call → Element
value_element true h = escaped_expression h
value_element false h = html_expression h

abbrev pub value_piece : Bool → Position → Expression → SourcePiece
value_piece is_escaped p expression =
    leaf p (value_element is_escaped (call_of expression.name expression.terms)) expression.depth (first_rejected (expression_literals expression))

-- A path that is alone in its tag is an identifier, if it is marked as a name.
abbrev pub KnowsName : Content → Type 0
KnowsName (content.Path token) = token.is_name ≡ true → IsIdentifier token.raw.now
KnowsName other = ⊤

-- the opening that this block expression stands for, and its first rejected literal
pub record HasOpening (kind : BlockKind) (e : WhitespaceControl) (expression : BlockExpression) (built : BuiltOpening) : Type 0 where
  pub opening : opening_view built.opening ≡ opening_of kind e expression
  pub rejected : option_map (λ t. t.now) built.rejected ≡ first_rejected (literals_in expression.terms)

abbrev pub IsOpening : BlockKind → WhitespaceControl → BlockExpression → Option BuiltOpening → Type 0
IsOpening kind e expression read = MatchOption read ⊥ (HasOpening kind e expression)

-- ---- texts

-- a text between two whitespace controls, if it has an element
abbrev pub positioned_text : Options → Position → WhitespaceControl → Text → Text → WhitespaceControl → List PositionedElement
positioned_text options p e token unescaped n =
    if has_element e token then record { position = p; element = raw_string (trimmed options e unescaped n) } ∷ [] else []

-- ---- the outcome of a source

-- by the state at its end: the innermost block is still open, a late error was recorded, or the source nests
abbrev pub compilation_at_end : Options → List BlockSoFar → Option NestingError → List PositionedElement → Compilation
compilation_at_end options (f ∷ fs) late es = rejected (refusal_for options (not_closed f.position))
compilation_at_end options [] (Some f) es = rejected (refusal_for options f)
compilation_at_end options [] None es = compiled (tree_of options es)

abbrev pub nested_outcome : Options → Nested → Compilation
nested_outcome options (nested.Whole elements) = compiled (tree_of options (positioned_view elements))
nested_outcome options (nested.NotClosed p) = rejected (refusal_for options (not_closed (position_of p)))
nested_outcome options (nested.Late l) = rejected (refusal_for options (late_nesting_error l))

abbrev pub scanned_outcome : Options → Scanned → Compilation
scanned_outcome options (scanned.Through nested) = nested_outcome options nested
scanned_outcome options (scanned.Unreadable p) = rejected (unreadable_tag options (position_of p))
scanned_outcome options (scanned.Misplaced f p) = rejected (refusal_for options (nesting_error (position_of p) f))
