-- What a template means: what each of its elements does, step by step.
use Rattle.std.specs.Option.{is_some}
use Rattle.std.specs.Prelude.{ℕ, ◌+◌, Bool, true, false, ◌&&◌, ◌||◌, if◌then◌else◌, List, [], ◌∷◌, Option, None, Some, slice_get}
use Rattle.handlebars_base.specs.Bytes.{Text}
use Rattle.handlebars_base.specs.Reasons.{block_content_required}
use Rattle.handlebars_base.specs.Scoped.{Found, walked, value, missing}
use Rattle.handlebars_template.specs.Position.{Position}
use Rattle.handlebars_template.specs.Tree.{Tree, tree, Elements, no_elements, element, Element, raw_string, html_expression, escaped_expression, helper_block, decorator_expression, decorator_block, partial_expression, partial_block, comment, Call, call_name, call_args, call_marks, is_value, DecoratorMarks, Decorator, decorator_name, decorator_args, decorator_body, decorator_marks, Body, no_body, body}
use Rattle.handlebars_scope.specs.LineState.{LineState}
use Rattle.handlebars_helpers.specs.CallView.{CallView, HelperView}
use Rattle.handlebars_helpers.specs.Callee.{Target}
use Rattle.handlebars_helpers.specs.Decoration.{DecoratorView, Action, sets_data, binds, unbinds, sets_partial}
use Rattle.handlebars_semantics.specs.Execute.{view_with_bodies, execute, change}
use Rattle.handlebars_semantics.specs.Inclusion.{joined_indent}
use Rattle.handlebars_semantics.specs.Including.{include}
use Rattle.handlebars_semantics.specs.Pieces.{of_text}
use Rattle.handlebars_semantics.specs.Questions.{value_of, view_of, helper_of, called_as, hook_for, choice_of, decorator_of, actions_of}
use Rattle.handlebars_semantics.specs.Occurrences.{TreeOccurrence, first_tree, Occurrence, element_in}
use Rattle.handlebars_semantics.specs.State.{with_nearest, with_partial, with_data, with_local, without_local}
use Rattle.handlebars_semantics.specs.Steps.{Task, One, Whole, Steps, Done, Do, Prog, return, ◌>>=◌, ◌>>◌, run, fail_for, ask, state, become, perform}
use Rattle.handlebars_semantics.specs.Writing.{write_text, write_value}

-- ---- brackets

-- Escaping is off, and is then as before.
abbrev pub without_escaping : Prog (Unit {0}) → Prog (Unit {0})
without_escaping steps = do
  before ← state
  become (record before { escapes = false })
  steps
  after ← state
  become (record after { escapes = before.escapes })

-- At the start of a call the state of the line changes: indentation is to be written before the next text if it was before,
-- or if the tag's mark is set and the last text ended a line. Nothing counts as written yet.
abbrev pub line_in : Bool → LineState → LineState
line_in marked line = record line { before = line.before || (marked && line.trailing); produced = false }

-- After the call, if something was written, indentation is to be written before the next text if what was written ended a
-- line. Otherwise `before` and `produced` are as they were.
abbrev pub line_out : LineState → LineState → LineState
line_out old new =
    if new.produced then record new { before = new.trailing }
    else record new { before = old.before; produced = old.produced }

-- with the state of the line that `enter` makes of the one before
abbrev pub on_line : (LineState → LineState) → Prog (Unit {0}) → Prog (Unit {0})
on_line enter steps = do
  old ← state
  become (record old { line = enter old.line })
  steps
  new ← state
  become (record new { line = line_out old.line new.line })

abbrev pub in_bracket : Bool → Prog (Unit {0}) → Prog (Unit {0})
in_bracket marked steps = on_line (line_in marked) steps

-- ---- calls

-- What a helper chooses for a call of this view is executed.
abbrev pub render_chosen : Occurrence → Target → HelperView → Prog (Unit {0})
render_chosen occurrence k h = ask (choice_of k h) >>= execute occurrence h

-- A helper is called within the bracket, for a block or an expression.
abbrev pub render_helped : Occurrence → Bool → Call → Target → CallView → Prog (Unit {0})
render_helped occurrence block c k v =
    in_bracket (call_marks c).indent_before_write (render_chosen occurrence k (view_with_bodies block c v))

-- A block, or an expression with parameters or hash arguments, calls the helper of its name, else the hook. A block that has
-- neither may be a section, and is then called as one.
abbrev pub render_call : Occurrence → Bool → Call → Prog (Unit {0})
render_call occurrence block c = do
  v ← ask (view_of (call_name c) (call_args c))
  called ← ask (called_as block c v)
  render_helped occurrence block c called.0 called.1

-- ---- lone expressions

-- The hook is called for a missing value, without a bracket. Without a hook nothing is written.
abbrev pub render_hook : Occurrence → Call → CallView → Option Target → Prog (Unit {0})
render_hook occurrence c v None = return tt
render_hook occurrence c v (Some k) = render_chosen occurrence k (view_with_bodies false c v)

-- A value that is not missing is written.
abbrev pub render_found : Occurrence → Call → CallView → Found → Prog (Unit {0})
render_found occurrence c v (walked d path) = write_value occurrence (walked d path)
render_found occurrence c v (value d) = write_value occurrence (value d)
render_found occurrence c v missing = ask (hook_for (call_name c)) >>= render_hook occurrence c v

-- A lone expression calls the helper of its name, if there is one; otherwise it is a value.
abbrev pub render_lone_as : Occurrence → Call → CallView → Option Target → Prog (Unit {0})
render_lone_as occurrence c v None = ask (value_of (call_name c)) >>= render_found occurrence c v
render_lone_as occurrence c v (Some k) = render_helped occurrence false c k v

abbrev pub render_lone : Occurrence → Call → Prog (Unit {0})
render_lone occurrence c = do
  v ← ask (view_of (call_name c) (call_args c))
  k ← ask (helper_of v.name)
  render_lone_as occurrence c v k

-- ---- decorators

-- The view of a tag, as its decorator sees it, under an indentation: with its body, and with its own indentation after that
-- one.
abbrev pub shown_tag : Option Text → Decorator → CallView → DecoratorView
shown_tag indent t v = record {
  call = v;
  body = decorator_body t;
  indent = joined_indent indent (decorator_marks t).indent;
}

-- The body of the tag is a partial of the nearest scope frame from now on. Without any scope frame nothing is set.
abbrev pub set_partial : Text → Body → Prog (Unit {0})
set_partial name no_body = fail_for block_content_required
set_partial name (body t) = change (with_nearest (with_partial name t))

-- an action of a decorator, whose tag has this body
abbrev pub do_action : Body → Action → Prog (Unit {0})
do_action b (sets_data d) = change (with_data d)
do_action b (binds name l) = change (with_local name l)
do_action b (unbinds name) = change (without_local name)
do_action b (sets_partial name) = set_partial name b

abbrev pub do_actions : Body → List Action → Prog (Unit {0})
do_actions b [] = return tt
do_actions b (action ∷ actions) = do_action b action >> do_actions b actions

-- The decorator of the tag's name is asked for its actions, and they are executed in order.
abbrev pub render_decorator : Decorator → Prog (Unit {0})
render_decorator t = do
  v ← ask (view_of (decorator_name t) (decorator_args t))
  s ← state
  k ← ask (decorator_of v.name)
  actions ← ask (actions_of k (shown_tag s.indent t v))
  do_actions (decorator_body t) actions

-- ---- inclusions

-- At the start of an inclusion, indentation is to be written before the next text if the tag's mark is set, and the last text
-- ended a line or the tag has an indentation. Nothing counts as written yet.
abbrev pub line_at : DecoratorMarks → LineState → LineState
line_at marks line = record line {
  before = marks.indent_before_write && (line.trailing || is_some marks.indent);
  produced = false;
}

-- what a tag of these values includes, under the indentation in force
abbrev pub include_tag : Occurrence → Decorator → CallView → Prog (Unit {0})
include_tag occurrence t v = do
  s ← state
  include occurrence (shown_tag s.indent t v)

-- The view is evaluated first. After the inclusion the state of the line is as after a call.
abbrev pub render_partial : Occurrence → Decorator → Prog (Unit {0})
render_partial occurrence t = do
  v ← ask (view_of (decorator_name t) (decorator_args t))
  on_line (line_at (decorator_marks t)) (include_tag occurrence t v)

-- ---- elements

abbrev pub render_expression : Occurrence → Call → Prog (Unit {0})
render_expression occurrence c = if is_value c then render_lone occurrence c else render_call occurrence false c

-- a block, or an expression
abbrev pub render_tag : Occurrence → Bool → Call → Prog (Unit {0})
render_tag occurrence true c = render_call occurrence true c
render_tag occurrence false c = render_expression occurrence c

-- A text and an expression write, a block does what its helper chooses, a decorator changes the state, an inclusion renders
-- what it finds, and a comment does nothing.
abbrev pub render_element : Occurrence → Element → Prog (Unit {0})
render_element occurrence (raw_string t) = write_text (of_text occurrence) t
render_element occurrence (html_expression c) = without_escaping (render_expression occurrence c)
render_element occurrence (escaped_expression c) = render_expression occurrence c
render_element occurrence (helper_block c) = render_call occurrence true c
render_element occurrence (decorator_expression t) = render_decorator t
render_element occurrence (decorator_block t) = render_decorator t
render_element occurrence (partial_expression t) = render_partial occurrence t
render_element occurrence (partial_block t) = render_partial occurrence t
render_element occurrence (comment t) = return tt

-- elements in order, from an index on; some have a position
abbrev pub render_elements : TreeOccurrence → ℕ → Elements → List Position → Prog (Unit {0})
render_elements at i no_elements positions = return tt
render_elements at i (element e es) positions =
    perform (One (element_in at i (slice_get positions i)) e) >> render_elements at (i + 1) es positions

-- A tree makes its own name the current one, and then renders its elements.
abbrev pub render_whole : TreeOccurrence → Tree → Prog (Unit {0})
render_whole at (tree n es positions) = do
  s ← state
  become (record s { current = n })
  render_elements at 0 es positions

-- ---- runs

-- what a task of a run does
abbrev pub plan : Task → Prog (Unit {0})
plan (One occurrence e) = render_element occurrence e
plan (Whole at t) = render_whole at t

abbrev pub todo : Task → Steps
todo t = run (plan t)

-- a run of a whole tree
abbrev pub render_tree : Tree → Steps
render_tree t = Do (Whole first_tree t) Done

-- a run of an element alone, as if it were the one element of a tree
abbrev pub render_alone : Element → Steps
render_alone e = Do (One (element_in first_tree 0 None) e) Done
