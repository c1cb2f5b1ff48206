-- What an inclusion finds, its scope frame, and what it changes.
use Rattle.std.specs.Prelude.{◌+◌, ◌++◌, Bool, false, List, [], ◌∷◌, Option, None, Some}
use Rattle.std.specs.Str.{bytes_eq}
use Rattle.serde_json.specs.Data.{Data}
use Rattle.handlebars_base.specs.Bytes.{Text}
use Rattle.handlebars_base.specs.PathAndData.{PathAndData}
use Rattle.handlebars_base.specs.Scoped.{data_in}
use Rattle.handlebars_template.specs.Tree.{Tree, Body, no_body, body}
use Rattle.handlebars_scope.specs.Merged.{merge}
use Rattle.handlebars_scope.specs.Scopes.{nothing_at, put_at, Bound, bound_value, Frame, empty_frame}
use Rattle.handlebars_semantics.specs.Pieces.{Piece}
use Rattle.handlebars_semantics.specs.State.{Parts, CapturedBlocks, State, outer_frames, partial_in}

-- ---- what is found

-- What an inclusion by a name finds: a local partial, or a registered template. If there is neither, it finds the tag's own
-- block, or nothing if the tag has none.
pub data Partial : Type 0 where
  is_local : Tree → Partial
  is_registered : Tree → Partial
  is_own_block : Tree → Partial
  is_nowhere : Partial

abbrev pub own_block : Body → Partial
own_block no_body = is_nowhere
own_block (body t) = is_own_block t

abbrev pub registered_or_own : Option Tree → Body → Partial
registered_or_own None b = own_block b
registered_or_own (Some t) b = is_registered t

abbrev pub local_or_other : Option Tree → Option Tree → Body → Partial
local_or_other None stored b = registered_or_own stored b
local_or_other (Some t) stored b = is_local t

-- what a tag with this body finds by a name: a local partial takes precedence, the nearest scope frame's before others
abbrev pub partial_for : Parts → State → Text → Body → Partial
partial_for parts s name b = local_or_other (partial_in s.blocks name) (parts.template name) b

-- whether a name is that of the template whose elements are being rendered
abbrev pub is_current : Text → Option Text → Bool
is_current name None = false
is_current name (Some current) = bytes_eq current name

-- the newest captured text; none if the newest entry has none
abbrev pub newest : CapturedBlocks → Option (List Piece)
newest [] = None
newest (k ∷ ks) = k

-- ---- the scope frame of an inclusion

-- the values of the hash arguments; a missing one counts as null
abbrev pub hash_data : List (Text × PathAndData) → List (Text × Data)
hash_data [] = []
hash_data (h ∷ hs) = (h.0, data_in h.1.found) ∷ hash_data hs

-- values bound to their names, beside those that are bound already
abbrev pub with_bound : List (Text × Data) → (Text → Option Bound) → Text → Option Bound
with_bound [] bound = bound
with_bound (h ∷ hs) bound = with_bound hs (put_at h.0 (bound_value h.1) bound)

-- The scope frame of an inclusion: its base value is a value merged with the hash arguments, each of which is also bound to
-- its key, and it has these variables.
abbrev pub inclusion_frame : Data → List (Text × Data) → (Text → Option Data) → Frame
inclusion_frame d hs variables = record empty_frame {
  base_value = Some (merge d hs);
  bound = with_bound hs nothing_at;
  variable = variables;
}

-- ---- what it changes

-- an indentation, followed by another one, if there is one
abbrev pub joined_indent : Option Text → Option Text → Option Text
joined_indent None own = own
joined_indent (Some i) None = Some i
joined_indent (Some i) (Some own) = Some (i ++ own)

-- The inclusion begins: its indentation is in force, what is captured for it is the newest, and it is counted.
abbrev pub begin_inclusion : Option Text → Option (List Piece) → State → State
begin_inclusion indent k s = record s { indent = indent; captured = k ∷ s.captured; inclusions = s.inclusions + 1 }

-- with the name and the indentation of the state before
abbrev pub named_as_before : State → State → State
named_as_before before s = record s { current = before.current; indent = before.indent }

-- The inclusion is over: its scope frame is left, and the name, the indentation, what is captured and the count are as
-- before.
abbrev pub end_inclusion : State → State → State
end_inclusion before s = record s {
  current = before.current;
  blocks = outer_frames s.blocks;
  indent = before.indent;
  captured = before.captured;
  inclusions = before.inclusions;
}
