-- What an inclusion does, given its view.
use Rattle.std.specs.Prelude.{Bool, true, false, List, [], ◌∷◌, Option, None, Some, codes}
use Rattle.std.specs.Str.{bytes_eq}
use Rattle.serde_json.specs.Data.{Data}
use Rattle.handlebars_base.specs.Bytes.{Text}
use Rattle.handlebars_base.specs.Path.{relative}
use Rattle.handlebars_base.specs.PathAndData.{PathAndData}
use Rattle.handlebars_base.specs.Reasons.{cannot_include_self, partial_block_not_found, partial_not_found}
use Rattle.handlebars_base.specs.Scoped.{data_in}
use Rattle.handlebars_template.specs.Tree.{Tree, tree_name, Param, path, Body, no_body, body}
use Rattle.handlebars_helpers.specs.Decoration.{DecoratorView}
use Rattle.handlebars_semantics.specs.Execute.{change}
use Rattle.handlebars_semantics.specs.Inclusion.{Partial, is_local, is_registered, is_own_block, is_nowhere, is_current, newest, hash_data, inclusion_frame, begin_inclusion, named_as_before, end_inclusion}
use Rattle.handlebars_semantics.specs.Pieces.{Piece}
use Rattle.handlebars_semantics.specs.Questions.{value_of}
use Rattle.handlebars_semantics.specs.Occurrences.{as_part, TreeOccurrence, body_at, included_at, Occurrence}
use Rattle.handlebars_semantics.specs.State.{State, nearest_variables, push_frame}
use Rattle.handlebars_semantics.specs.Steps.{Whole, Prog, return, ◌>>=◌, ◌>>◌, fail_for, ask, write, state, become, perform, capture, find, check_limit}

-- ---- `@partial-block`: the captured text, or the tag's own block

-- If no text is captured, the tag's own block is rendered; the name and the indentation are then as before.
abbrev pub render_own_block : Occurrence → Body → State → Prog (Unit {0})
render_own_block occurrence no_body s = fail_for partial_block_not_found
render_own_block occurrence (body t) s = do
  perform (Whole (body_at occurrence (as_part 0)) t)
  change (named_as_before s)

-- The newest captured text is written as it is, whatever the state of the line. This does not count as an inclusion.
abbrev pub write_captured : Occurrence → Body → State → Option (List Piece) → Prog (Unit {0})
write_captured occurrence b s None = render_own_block occurrence b s
write_captured occurrence b s (Some ps) = write false ps

-- the name by which an inclusion asks for the captured text
abbrev pub partial_block_name : Text
partial_block_name = codes "@partial-block"

-- ---- inclusions

-- the current value, as a parameter
abbrev pub this_param : Param
this_param = path (relative [] [])

-- The base value of an inclusion's scope frame: the value of the first parameter, or without one the current value. A missing
-- value counts as null.
abbrev pub base_value : List PathAndData → Prog Data
base_value [] = do
  found ← ask (value_of this_param)
  return (data_in found)
base_value (p ∷ ps) = return (data_in p.found)

-- A new scope frame is the nearest one for what is included. It has the variables of the one before.
abbrev pub enter_frame : DecoratorView → Prog (Unit {0})
enter_frame v = do
  d ← base_value v.call.params
  s ← state
  become (push_frame (inclusion_frame d (hash_data v.call.hash) (nearest_variables s.blocks)) s)

-- If the partial of a tag was found, the tag's block is rendered first, under the old indentation, and its text is captured.
-- A tag without a block captures no text.
abbrev pub render_ahead : Occurrence → Body → Prog (Option (List Piece))
render_ahead occurrence no_body = return None
render_ahead occurrence (body t) = do
  ps ← capture (perform (Whole (body_at occurrence (as_part 0)) t))
  return (Some ps)

-- A tree is included, if the limit allows it: in a scope frame of its own, with what is captured for it, and under the view's
-- indentation. At the end all is as before.
abbrev pub include_tree : DecoratorView → TreeOccurrence → Tree → Prog (Option (List Piece)) → Prog (Unit {0})
include_tree v at t ahead = do
  check_limit
  s ← state
  enter_frame v
  k ← ahead
  change (begin_inclusion v.indent k)
  perform (Whole at t)
  change (end_inclusion s)

abbrev pub include_found : Occurrence → DecoratorView → Option Text → Tree → Prog (Unit {0})
include_found occurrence v name t = include_tree v (included_at occurrence name t) t (render_ahead occurrence v.body)

-- What was found is included: a local partial under its own name, if it has one, and a registered tree under the name by
-- which it was found. If nothing was found, the tag's own block is included, and captures no text. If there is no block
-- either, the inclusion fails with `partial_not_found`.
abbrev pub include_partial : Occurrence → DecoratorView → Partial → Prog (Unit {0})
include_partial occurrence v (is_local t) = include_found occurrence v (tree_name t) t
include_partial occurrence v (is_registered t) = include_found occurrence v (Some v.call.name) t
include_partial occurrence v (is_own_block t) = include_tree v (body_at occurrence (as_part 0)) t (return None)
include_partial occurrence v is_nowhere = fail_for (partial_not_found v.call.name)

-- The name of the captured text takes precedence over any partial.
abbrev pub include_other : Occurrence → DecoratorView → Partial → State → Bool → Prog (Unit {0})
include_other occurrence v found s true = write_captured occurrence v.body s (newest s.captured)
include_other occurrence v found s false = include_partial occurrence v found

-- Including the template whose elements are being rendered fails with `cannot_include_self`.
abbrev pub include_named : Occurrence → DecoratorView → Partial → State → Bool → Prog (Unit {0})
include_named occurrence v found s true = fail_for cannot_include_self
include_named occurrence v found s false = include_other occurrence v found s (bytes_eq partial_block_name v.call.name)

-- What a tag of this view includes. What its name finds is looked up first, whatever follows, so that a run has the names of
-- all its inclusions.
abbrev pub include : Occurrence → DecoratorView → Prog (Unit {0})
include occurrence v = do
  found ← find v.call.name v.body
  s ← state
  include_named occurrence v found s (is_current v.call.name s.current)
