-- What the program's steps through expressions stand for.
use Rattle.std.specs.Prelude.{ℕ, Option}
use Rattle.std.specs.Option.{option_map}
use denote.Ref.{Bor}
use Rattle.handlebars_base.specs.Bytes.{Text}
use Rattle.handlebars_expressions.specs.Runs.{ReadingStep, goes, ends, stuck}
use Rattle.handlebars_expressions.specs.Expression.{NameMode, identifier_name, value_name, close_name, opening_name, Enclosure, in_tag, in_block, in_parentheses}
use Rattle.handlebars_expressions.specs.ExpressionReading.{Event, opened, literal_event, path_event, name_event, closed, Phase, at_name, at_items, at_end, ExpressionState, expression_state, height}
use Rattle.handlebars_expressions.specs.declared.expression.step.Enclosure.{Enclosure as ReadEnclosure}
use Rattle.handlebars_expressions.specs.declared.expression.step.Enclosure.TheVariants.{Tag, Block, Parentheses}
use Rattle.handlebars_expressions.specs.declared.expression.step.NameMode.{NameMode as ReadNameMode}
use Rattle.handlebars_expressions.specs.declared.expression.step.NameMode.TheVariants as name_mode
use Rattle.handlebars_expressions.specs.declared.expression.step.Phase.{Phase as ReadPhase}
use Rattle.handlebars_expressions.specs.declared.expression.step.Phase.TheVariants as phase
use Rattle.handlebars_expressions.specs.declared.expression.step.ExpressionState.{ExpressionState as ReadExpressionState}
use Rattle.handlebars_expressions.specs.declared.expression.step.Event.{Event as ReadEvent}
use Rattle.handlebars_expressions.specs.declared.expression.step.Event.TheVariants as event
use Rattle.handlebars_expressions.specs.declared.expression.step.Step.{Step}
use Rattle.handlebars_expressions.specs.declared.expression.step.Step.TheVariants as step

abbrev pub enclosure_of : ReadEnclosure → Enclosure
enclosure_of Tag = in_tag
enclosure_of Block = in_block
enclosure_of Parentheses = in_parentheses

abbrev pub mode_of : ReadNameMode → NameMode
mode_of name_mode.Identifier = identifier_name
mode_of name_mode.Value = value_name
mode_of name_mode.Close = close_name
mode_of name_mode.Opening = opening_name

-- two texts, wherever they are stored
abbrev pub texts_of : Bor Text × Bor Text → Text × Text
texts_of x = (x.0.now, x.1.now)

abbrev pub key_of : Option (Bor Text) → Option Text
key_of key = option_map (λ t. t.now) key

abbrev pub phase_of : ReadPhase → Phase
phase_of (phase.Name mode) = at_name (mode_of mode)
phase_of phase.Items = at_items
phase_of phase.End = at_end

abbrev pub expression_state_of : ReadExpressionState → ExpressionState
expression_state_of s = expression_state (phase_of s.phase) s.level

abbrev pub event_of : ReadEvent → Event
event_of (event.Opened key n) = opened (key_of key) n
event_of (event.Literal key raw n) = literal_event (key_of key) raw.now n
event_of (event.Path key raw n) = path_event (key_of key) raw.now n
event_of (event.Name raw) = name_event raw.now
event_of event.Closed = closed

abbrev pub reading_step_of : Step → ReadingStep Event ExpressionState
reading_step_of (step.Goes x s rest) = goes (event_of x) (expression_state_of s) rest.now
reading_step_of step.Ends = ends
reading_step_of step.Stuck = stuck

abbrev pub height_of : ReadEvent → ℕ
height_of x = height (event_of x)
