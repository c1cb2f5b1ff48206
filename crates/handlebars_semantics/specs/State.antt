-- What a run reads and what it changes.
use Rattle.std.specs.Prelude.{ℕ, Bool, true, false, List, [], ◌∷◌, Option, None, Some, codes, cond, option_map, unwrap_or}
use Rattle.std.specs.Str.{bytes_eq}
use Rattle.serde_json.specs.Data.{Data}
use Rattle.handlebars_base.specs.Answers.{Answer, gives, fails_for}
use Rattle.handlebars_base.specs.Bytes.{Text}
use Rattle.handlebars_base.specs.Reasons.{helper_not_found}
use Rattle.handlebars_scope.specs.LineState.{LineState, first_line}
use Rattle.handlebars_scope.specs.Resolve.{or_else}
use Rattle.handlebars_scope.specs.Scopes.{nothing_at, put_at, Frame, empty_frame}
use Rattle.handlebars_template.specs.Tree.{Tree}
use Rattle.handlebars_helpers.specs.CallView.{HelperView, with_constants}
use Rattle.handlebars_helpers.specs.Callee.{Callee, LocalHelper, Target, calls_registered, calls_local}
use Rattle.handlebars_helpers.specs.Decoration.{DecoratorKind}
use Rattle.handlebars_helpers.specs.Escaping.{Escaping, UserEscape}
use Rattle.handlebars_helpers.specs.UserHelper.{UserHelper, AnswersOnce, HasOne}
use Rattle.handlebars_helpers.specs.UserDecorator.{DecoratorQuestion, UserDecorator}
use Rattle.handlebars_semantics.specs.Pieces.{Piece}

-- What a registry has for a run:
-- - what is registered under a helper's name, if anything, and what a user-defined helper of that name answers;
-- - the decorator under a name, if there is one, and what a user-defined one answers;
-- - how values are escaped, and what a user-defined escape function answers;
-- - whether its mode is strict, whether lookup is recursive in the runs that it begins, and whether a block that has no
--   helper acts on the value of its name;
-- - the tree under a template's name, if there is one, and how many inclusions may be rendered one within another.
pub record Parts : Type 1 where
  pub helper : Text → Option Callee
  pub user : Text → UserHelper
  pub decorator : Text → Option DecoratorKind
  pub user_decorator : Text → UserDecorator
  pub escape : Escaping
  pub user_escape : UserEscape
  pub strict : Bool
  pub recursive : Bool
  pub sections : Bool
  pub template : Text → Option Tree
  pub limit : ℕ

-- no user-defined helper, decorator or escape function has two answers to one question
pub record IsLawful (parts : Parts) : Type 0 where
  pub helpers : (name : Text) → AnswersOnce (parts.user name)
  pub decorators : (name : Text) (q : DecoratorQuestion) → HasOne (parts.user_decorator name q)
  pub escape : (t : Text) → HasOne (parts.user_escape t)

-- the name of the hook, which is called if a name has no helper: of blocks, and of all other calls
abbrev pub hook : Bool → Text
hook true = codes "blockHelperMissing"
hook false = codes "helperMissing"

-- what does not change in a run
pub record Setting : Type 1 where
  pub given : Data
  pub parts : Parts

-- what is captured for the blocks of inclusions, newest first: the pieces of each, or none for an inclusion without a block
abbrev pub CapturedBlocks : Type 0
CapturedBlocks = List (Option (List Piece))

-- What a run changes: the name of the template whose elements are being rendered, if it has one; the scope frames, nearest
-- first; the state of the line that is written; whether escaping is on; the indentation in force, if there is any; what is
-- captured; how many inclusions are being rendered; the data that replaced the given data, if it was changed; and the local
-- helpers by their names. Whether lookup is recursive stays as it is when the run begins.
pub record State : Type 0 where
  pub current : Option Text
  pub blocks : List Frame
  pub recursive : Bool
  pub line : LineState
  pub escapes : Bool
  pub indent : Option Text
  pub captured : CapturedBlocks
  pub inclusions : ℕ
  pub changed : Option Data
  pub local : Text → Option LocalHelper

-- A run begins with one empty scope frame.
abbrev pub first_state : Bool → State
first_state recursive = record {
  current = None;
  blocks = empty_frame ∷ [];
  recursive = recursive;
  line = first_line;
  escapes = true;
  indent = None;
  captured = [];
  inclusions = 0;
  changed = None;
  local = nothing_at;
}

-- the data that paths lead into: the data that was set last, or else the given data
abbrev pub data_at : Setting → State → Data
data_at p s = unwrap_or s.changed p.given

-- ---- what calls call

-- what is registered under a name, as the target of a call
abbrev pub registered_target : Parts → Text → Option Target
registered_target parts name = option_map (λ k. calls_registered k) (parts.helper name)

-- the helper of a name in a state: a local one, else a registered one
abbrev pub helper_named : Parts → State → Text → Option Target
helper_named parts s name = or_else (option_map (λ l. calls_local name) (s.local name)) (registered_target parts name)

-- What a call by a name calls, of a block or not: the helper of the name, else the registered hook.
abbrev pub helper_for : Parts → State → Bool → Text → Option Target
helper_for parts s block name = or_else (helper_named parts s name) (registered_target parts (hook block))

-- A local helper calls what is registered under its other name, if anything still is, and passes its constants before the
-- parameters of the call.
abbrev pub bound_call : LocalHelper → HelperView → Option Callee → Answer (Callee × HelperView)
bound_call l h None = fails_for (helper_not_found l.registered)
bound_call l h (Some k) = gives (k, with_constants l.constants h)

-- what the local helper calls for a call of this view
abbrev pub local_call : Parts → Option LocalHelper → Text → HelperView → Answer (Callee × HelperView)
local_call parts None name h = fails_for (helper_not_found name)
local_call parts (Some l) name h = bound_call l h (parts.helper l.registered)

-- ---- changes of the scope frames

-- a scope frame is the nearest one from now on
abbrev pub push_frame : Frame → State → State
push_frame f s = record s { blocks = f ∷ s.blocks }

-- the scope frames without the nearest one
abbrev pub outer_frames : List Frame → List Frame
outer_frames [] = []
outer_frames (f ∷ fs) = fs

abbrev pub pop_frame : State → State
pop_frame s = record s { blocks = outer_frames s.blocks }

-- the nearest scope frame is changed, if there is one
abbrev pub nearest_as : (Frame → Frame) → List Frame → List Frame
nearest_as change [] = []
nearest_as change (f ∷ fs) = change f ∷ fs

abbrev pub with_nearest : (Frame → Frame) → State → State
with_nearest change s = record s { blocks = nearest_as change s.blocks }

-- the variables of the nearest scope frame; without any frame there are none
abbrev pub nearest_variables : List Frame → Text → Option Data
nearest_variables [] = nothing_at
nearest_variables (f ∷ fs) = f.variable

-- ---- local partials

-- the partial of a name: that of the nearest scope frame that has one
abbrev pub partial_in : List Frame → Text → Option Tree
partial_in [] name = None
partial_in (f ∷ fs) name = or_else (f.partial name) (partial_in fs name)

-- the scope frame, with this partial under the name
abbrev pub with_partial : Text → Tree → Frame → Frame
with_partial name t f = record f { partial = put_at name t f.partial }

-- ---- data and local helpers

abbrev pub with_data : Data → State → State
with_data d s = record s { changed = Some d }

abbrev pub with_local : Text → LocalHelper → State → State
with_local name l s = record s { local = put_at name l s.local }

-- the map with nothing under the name
abbrev pub taken_from : {X : Type 0} → Text → (Text → Option X) → Text → Option X
taken_from name map other = cond (bytes_eq name other) None (map other)

abbrev pub without_local : Text → State → State
without_local name s = record s { local = taken_from name s.local }
